-- What belongs to a library goes by what it has out.
use Rattle.trio_shared.proofs.Words.{◌&&◌, ◌+◌, ◌==◌, ◌∙◌, ◌≡◌, AreMarked, Belongs, Bool, Bundle, Bundled, GrantKind, Handed, HoldParts, In, In-map, LibNo, LibOut, List, OpenGrant, Option, Shown, Sizes, State, ap, eq-eqb, hold_of, inl, inr, is_hold, is_write, length, map, out_of, shown_of, subst, sym, true, ℕ}
use Rattle.std.proofs.Common.{◌*◌}
use Rattle.std.proofs.lemmas.Simd.{map-map}
use Rattle.trio_rights.specs.Sheets.{Sheet, sheet_numbers}
use Rattle.trio_lists.proofs.Filters.{In-filter}
use Rattle.trio_lists.proofs.Members.{map-In}
use Rattle.trio_lease.specs.Views.{lent_sheet}
use Rattle.trio_lease.specs.declared.parts.LentPage.{LentPage}
use Rattle.trio_rights.specs.Bundle.{bundle_pages}
use Rattle.trio_state.specs.Given.{WasAllotted}
use Rattle.trio_laws.specs.OutLaws.{numbers_to}
use Rattle.trio_laws.proofs.StateFacts.{write_is}
use Rattle.trio_ctl.specs.Belonging.{IsHoldOf, IsLeaseOf}
use Rattle.trio_laws.specs.history.Entries.{sheet_handed}
use Rattle.trio_ctl.specs.Desk.{grants_of}
use Rattle.trio_ctl.specs.Open.{untouched}
use Rattle.trio_ctl.proofs.DeskGiven.{behind}
use Rattle.trio_ctl.proofs.DeskOuts.{In-numbers_to, hold_is, numbers_to-In}

numbers_shown : (sheets : List Sheet) → map (λ (p : LentPage). p.no.0) (map untouched sheets) ≡ sheet_numbers sheets
numbers_shown sheets = map-map (λ (p : LentPage). p.no.0) untouched sheets

module _ (s t : State) (lib : LibNo) (same : out_of s lib ≡ out_of t lib) where
  -- what an open grant of the library shows is out
  shows : {Y : Type 0} (v : OpenGrant → Y) (is_kind : GrantKind → Bool) (g : OpenGrant) → In g s.open_grants → g.lib ≡ lib.0 → is_kind g.kind ≡ true → In (v g) (map v (grants_of is_kind lib s.open_grants))
  shows v is_kind g i mine kind =
      In-map v g (grants_of is_kind lib s.open_grants)
      (In-filter (λ (h : OpenGrant). h.lib == lib.0 && is_kind h.kind) g s.open_grants i (ap (λ b. b && is_kind g.kind) (eq-eqb g.lib lib.0 mine) ∙ kind))

  lease_then : (f : Shown) → IsLeaseOf s lib.0 f → IsLeaseOf t lib.0 f
  lease_then f l =
      let there : In (shown_of l.grant) (out_of t lib).writes =
      subst (λ (o : LibOut). In (shown_of l.grant) o.writes) same (shows shown_of is_write l.grant l.is_open l.lib (ap is_write l.kind)) in
      let w = behind shown_of is_write t lib (shown_of l.grant) there in
      let pages = λ (part : Shown → List LentPage). ap (λ (x : Shown). map (λ (p : LentPage). p.no.0) (part x)) w.is in
      record {
        grant = w.grant;
        is_open = w.is_open;
        lib = w.lib;
        kind = write_is w.grant.kind w.kind;
        named = l.named;
        ino = sym (ap (λ (x : Shown). x.ino) w.is) ∙ l.ino;
        of = sym (ap (λ (x : Shown). x.kind) w.is) ∙ l.of;
        entry = sym (ap (λ (x : Shown). x.entry) w.is) ∙ l.entry;
        index = l.index ∙ (sym (numbers_shown l.grant.index) ∙ (pages (λ x. x.index) ∙ numbers_shown w.grant.index));
        blocks = l.blocks ∙ (sym (numbers_shown l.grant.blocks) ∙ (pages (λ x. x.blocks) ∙ numbers_shown w.grant.blocks));
        whole_index = l.whole_index;
        whole_blocks = l.whole_blocks;
      }

  hold_then : (h : HoldParts) → IsHoldOf s lib.0 h → IsHoldOf t lib.0 h
  hold_then h l =
      let there : In (hold_of l.grant) (out_of t lib).holds =
      subst (λ (o : LibOut). In (hold_of l.grant) o.holds) same (shows hold_of is_hold l.grant l.is_open l.lib (ap is_hold l.kind)) in
      let w = behind hold_of is_hold t lib (hold_of l.grant) there in
      record { grant = w.grant; is_open = w.is_open; lib = w.lib; kind = hold_is w.grant.kind w.kind; is = sym w.is ∙ l.is }

  allotted_then : (a b : List (Option LibNo)) (n : ℕ) → numbers_to a lib.0 ≡ numbers_to b lib.0 → WasAllotted a lib.0 n → WasAllotted b lib.0 n
  allotted_then a b n e was = numbers_to-In b lib.0 n (subst (In n) e (In-numbers_to a lib.0 n was))

  pub belongs_then : (b : Bundled) → Belongs s lib.0 b → Belongs t lib.0 b
  belongs_then b h = record {
    writes = λ f i. lease_then f.stands (h.writes f i);
    holds = λ x i. hold_then x (h.holds x i);
    pages = λ p i.
        let was = h.pages p i in
        record { named = was.named; is_out = allotted_then s.pages_out t.pages_out p.no.0 (ap (λ (o : LibOut). o.pages) same) was.is_out; whole = was.whole };
    numbers = λ n i.
        let was = h.numbers n i in
        record { named = was.named; is_out = allotted_then s.numbers_out t.numbers_out n.no (ap (λ (o : LibOut). o.numbers) same) was.is_out };
    writes_once = h.writes_once;
    holds_once = h.holds_once;
    pages_once = h.pages_once;
    numbers_once = h.numbers_once;
  }

-- what a release needs, by the sizes of the image
abbrev pub room_of : Sizes → Bundle → ℕ
room_of sizes b = 4 * (sizes.range.end + sizes.inodes) + 16384 * length (bundle_pages b) + 1024 * (1 + length b.writes + length b.holds + length b.numbers)

-- the blocks of grants that show the same are the same
same_blocks : (xs ys : List Sheet) (x : Sheet) → map untouched xs ≡ map untouched ys → In x xs → In x ys
same_blocks xs ys x same i =
    let there = map-In untouched (untouched x) ys (subst (λ (l : List LentPage). In (untouched x) l) same (In-map untouched x xs i)) in
    subst (λ (y : Sheet). In y ys) (sym (ap lent_sheet there.2)) there.1

-- the marks of what is handed in go by what is out
pub marked_then : (s t : State) (lib : LibNo) → out_of s lib ≡ out_of t lib → (h : Handed) → AreMarked s lib.0 h → AreMarked t lib.0 h
marked_then s t lib same h marked w g p there is_open mine write ino at =
    let shown : In (shown_of g) (out_of s lib).writes =
    subst (λ (o : LibOut). In (shown_of g) o.writes) (sym same) (shows t s lib (sym same) shown_of is_write g is_open mine (ap is_write write)) in
    let was = behind shown_of is_write s lib (shown_of g) shown in
    let number : was.grant.ino ≡ w.ino = sym (ap (λ (x : Shown). x.ino) was.is) ∙ ino in
    elim (marked w was.grant p there was.is_open was.lib (write_is was.grant.kind was.kind) number at) [
      | inl touched ↦ inl touched
      | inr lent ↦ inr (same_blocks was.grant.blocks g.blocks (sheet_handed p) (sym (ap (λ (x : Shown). x.blocks) was.is)) lent)
    ]
