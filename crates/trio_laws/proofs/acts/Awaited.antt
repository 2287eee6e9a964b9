-- What is weighed of an awaited case is so of its bundle.
use Rattle.trio_laws.proofs.Words.{◌∙◌, ◌≡◌, Bundle, IsFull, IsJudgeable, KeptUnderway, Some, Underway, ap, begun_by, listing, meets_grammar, meets_owning, meets_rights, outline_of, sym, ℕ}
use Rattle.trio_laws.specs.ActLaws.{AwaitedStands}
use Rattle.trio_laws.proofs.judgement.CopiedRows.{copied_rows_suffice}

pub judgeable : (u : Underway) (lib : ℕ) (b : Bundle) → KeptUnderway u → begun_by u lib ≡ Some (outline_of b) → IsFull b → IsJudgeable u.state lib b
judgeable u lib b k e full = record { kept = k.kept; given = k.given lib b e full; closed = k.closed lib b e }

pub awaited_stands : AwaitedStands
awaited_stands u lib c k is full =
    let j = judgeable u lib c.bundle k is.0 full in
    let rules = copied_rows_suffice u.state lib c.bundle j in (
      j,
      record {
        grammar = sym rules.0 ∙ ap meets_grammar (sym is.1);
        owning = sym rules.1 ∙ ap meets_owning (sym is.1);
        rights = sym rules.2 ∙ ap meets_rights (sym is.1);
        listing = sym rules.3 ∙ ap listing (sym is.1);
      },
    )
