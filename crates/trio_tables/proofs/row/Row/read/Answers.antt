use Rattle.std.proofs.Common.{◌∙◌, Some, None, refl, sym, ap}
use Rattle.std.proofs.lemmas.Bool.{false≢true}
use Rattle.trio_page.specs.Field.{zeros}
use Rattle.trio_rights.specs.Row.{Row}
use Rattle.trio_tables.specs.Row.{as_row, IsRow}
use Rattle.trio_tables.proofs.RowLemmas.{found, free_found, free_only, live_only, none_only, is_value, only}
use Rattle.trio_tables.proofs.row.Row.read.Goals as goal

pub returns-then-all_zero : goal.returns-then-all_zero
returns-then-all_zero c =
    let free = c.if-all_zero.ensures.0 refl ∙ ap zeros c.told-bytes in
    let f = free_found c.args.bytes.now free in
    let o = free_only c.args.bytes.now free in
    record { free = (λ _. free, λ _. refl); found = f; only = o; value = is_value c.args.bytes.now (Some None) c.fits-bytes f o }

-- no row where the bytes are not framed as one
unframed : (c : goal.Then-not-is_framed) (r : Row) → IsRow c.args.bytes.now (Some r) → ⊥
unframed c r is = false≢true (c.if-not-is_framed.ensures.1 (only c.args.bytes.now r is).framed)

pub returns-then-not-is_framed-clause-only : goal.returns-then-not-is_framed-clause-only
returns-then-not-is_framed-clause-only c =
    none_only c.args.bytes.now (λ e. false≢true (c.if-all_zero.ensures.1 (e ∙ ap zeros (sym c.told-bytes)))) (unframed c)

pub returns-then-not-is_framed-clause-value : goal.returns-then-not-is_framed-clause-value
returns-then-not-is_framed-clause-value c = is_value c.args.bytes.now None c.fits-bytes tt (returns-then-not-is_framed-clause-only c)

pub returns-in-Some : goal.returns-in-Some
returns-in-Some c =
    let bytes = c.args.bytes.now in
    let row : Row = as_row c.fields.result in
    let framed = c.if-not-is_framed.ensures.0 refl in
    let f : IsRow bytes (Some row) = found c.in-Some.kind bytes row c.fits-bytes c.told-bytes framed c.in-Some.ensures.found c.fields.ensures in
    let o = live_only bytes row f in
    record {
      free = (λ e. absurd cc, λ e. absurd (false≢true (c.if-all_zero.ensures.1 (e ∙ ap zeros (sym c.told-bytes)))));
      found = f;
      only = o;
      value = is_value bytes (Some (Some row)) c.fits-bytes f o;
    }

-- no row where the kind's byte is none
unkind : (c : goal.In-None) (r : Row) → IsRow c.args.bytes.now (Some r) → ⊥
unkind c r is = c.in-None.ensures.none r.kind (only c.args.bytes.now r is).kind

pub returns-in-None-clause-only : goal.returns-in-None-clause-only
returns-in-None-clause-only c =
    none_only c.args.bytes.now (λ e. false≢true (c.if-all_zero.ensures.1 (e ∙ ap zeros (sym c.told-bytes)))) (unkind c)

pub returns-in-None-clause-value : goal.returns-in-None-clause-value
returns-in-None-clause-value c = is_value c.args.bytes.now None c.fits-bytes tt (returns-in-None-clause-only c)
