-- The case of a bundle that was given to a library of the controller.
use Rattle.trio_ctl.proofs.Words.{Bundle, Bundled, CaseShown, CoreRange, Creds, Entries, GivenTo, HoldParts, In, In-map, InoParts, IsControlled, Keyed, LentFile, LibNo, List, OpenGrant, Opened, Option, Outline, Some, State, Store, WereHeld, Written, [], and_from, ap, are_new, are_new-append, arith, bundle_in, bundle_pages, case_made, creds_of, grants_in, has_kind, is_core, is_some, le-leb, leb, length, lib_at, list_all, list_all-each, lt-ltb, ltb, map, map-In, new_beside, parted_hold, refl, row_in, same_kind-self, state_of, subst, suc, superblock_at_home, superblock_facts, sym, true, with_checkpoint, within_some, written_in, written_row, zero, ℕ, ◌&&◌, ◌++◌, ◌+◌, ◌-◌, ◌<◌, ◌∙◌, ◌∷◌, ◌≡◌, ◌≤◌}
use Rattle.std.specs.Prelude.{None, is_none}
use Rattle.trio_layout.specs.Copied.{copied_rows}
use Rattle.trio_laws.proofs.Bundles.{held_unwritten}
use Rattle.trio_laws.proofs.judgement.CaseFacts.{new_dead}
use Rattle.trio_case.specs.Cases.{IsJudgeable, is_free_number}
use Rattle.trio_ctl.proofs.ChildRows.{few_children}
use Rattle.trio_ctl.proofs.Concluding.{judgeable, some_and}
use Rattle.trio_ctl.proofs.Judging.{pages_core, pages_new, parents}

written_inos : (fs : List LentFile) → map (λ f. f.stands.ino) fs ≡ map (λ w. w.ino) (map (λ f. written_in f.stands) fs)
written_inos [] = refl
written_inos (f ∷ fs) = ap (λ l. f.stands.ino ∷ l) (written_inos fs)

-- the case of a bundle, by the parts that it is made of
pub made_so : (s : State) (lib : LibNo) (bundle : Bundled) (credentials : Creds) (range : CoreRange) (inodes : ℕ) → credentials ≡ creds_of s lib.0 → range ≡ s.home.core.range → inodes ≡ s.home.core.inodes
    → record { lib = lib; bundle = bundle; rows = copied_rows (bundle_in bundle) s.home.rows; creds = credentials; range = range; inodes = inodes } ≡ case_made s lib bundle
made_so s lib bundle credentials range inodes creds' ranges numbers =
    let S : Creds → CoreRange → ℕ → CaseShown = λ cs rg n. record { lib = lib; bundle = bundle; rows = copied_rows (bundle_in bundle) s.home.rows; creds = cs; range = rg; inodes = n } in
    ap (λ cs. S cs range inodes) creds' ∙ ap (λ rg. S (creds_of s lib.0) rg inodes) ranges ∙ ap (S (creds_of s lib.0) s.home.core.range) numbers

module _ (s : Store) (first : ℕ) (table : List Keyed) (files : List Opened) (creds : List Creds) (entries : Entries) (begun : List (Option Outline)) (k : IsControlled s first table files creds entries begun)
    (lib : LibNo) (bundle : Bundled) (given : GivenTo (state_of s first (grants_in files) creds entries.made) lib.0 (bundle_in bundle))
    (held : WereHeld (state_of s first (grants_in files) creds entries.made) lib.0 bundle.holds) (closed : parted_hold (state_of s first (grants_in files) creds entries.made) lib.0 (bundle_in bundle) ≡ None) where
  abbrev st : State
  st = state_of s first (grants_in files) creds entries.made

  abbrev b : Bundle
  b = bundle_in bundle

  -- a held file is live, of the kind of its hold, with the settled body
  held_kind : (h : HoldParts) → In h bundle.holds → has_kind h.kind (row_in s.rows h.ino) ≡ true
  held_kind h i =
      let q = held h i in
      let g = map-In (with_checkpoint s.checkpoints.items) q.grant (grants_in files) q.is_open in
      let o = map-In (λ (o : Opened). o.grant) g.0 files g.1 in
      let kinds = k.kinds o.0 o.1 in
      let number : o.0.grant.ino ≡ h.ino = sym (ap (λ (x : OpenGrant). x.ino) o.2) ∙ sym (ap (λ (x : OpenGrant). x.ino) g.2) ∙ q.ino in
      let of : o.0.grant.of ≡ h.kind = sym (ap (λ (x : OpenGrant). x.of) o.2) ∙ sym (ap (λ (x : OpenGrant). x.of) g.2) ∙ q.of in
      let r = some_and (row_in s.rows o.0.grant.ino) (λ r. r.kind ≡ o.0.grant.of) kinds in
      ap (has_kind h.kind) (ap (row_in s.rows) (sym number) ∙ r.1) ∙ same_kind-self h.kind r.0.kind (sym of ∙ sym r.2)

  -- no file is both written and held
  numbers_once : are_new [] (map (λ f. f.stands.ino) bundle.writes ++ map (λ h. h.ino) bundle.holds) ≡ true
  numbers_once =
      are_new-append [] (map (λ f. f.stands.ino) bundle.writes) (map (λ h. h.ino) bundle.holds)
      ∙ and_from (are_new [] (map (λ f. f.stands.ino) bundle.writes)) (are_new (map (λ f. f.stands.ino) bundle.writes) (map (λ h. h.ino) bundle.holds))
      (ap (are_new []) (written_inos bundle.writes) ∙ given.writes_once)
      (new_beside (map (λ f. f.stands.ino) bundle.writes) (map (λ h. h.ino) bundle.holds) given.holds_once
      (λ n i w.
      let v = map-In (λ (x : Written). x.ino) n b.writes (subst (λ ns. In n ns) (written_inos bundle.writes) w) in
      held_unwritten st k.stored.kept lib.0 b given n i v.0 v.1 (sym v.2)))

  low_first : 0 < first
  low_first =
      let facts = superblock_facts (superblock_at_home s first) k.stored.fits in
      omega (arith, facts.first_owner, facts.first_core)

  pub case_judgeable : (range : CoreRange) (inodes : ℕ) → range ≡ st.home.core.range → length s.rows ≡ inodes + 1 → IsJudgeable bundle s.rows range inodes
  case_judgeable range inodes ranges table' =
      let j = judgeable s first table files creds entries begun k lib b given closed in
      record {
        table = table';
        parents = parents st lib.0 b j;
        written = list_all-each (λ f. has_kind f.stands.kind (row_in s.rows f.stands.ino)) bundle.writes
            (λ f i.
            let q = written_row st lib.0 b j (written_in f.stands) (In-map (λ (x : LentFile). written_in x.stands) f bundle.writes i) in
            ap (has_kind f.stands.kind) q.1 ∙ same_kind-self f.stands.kind q.0.kind q.2);
        held = list_all-each (λ h. has_kind h.kind (row_in s.rows h.ino)) bundle.holds held_kind;
        once = numbers_once;
        numbers = list_all-each (λ n. is_free_number s.rows inodes n.no) bundle.inodes
            (λ n i. free_number n.no (In-map (λ (x : InoParts). x.no) n bundle.inodes i));
        apart = given.numbers_once;
        core = ap (λ rg. list_all (is_core rg) (bundle_pages b)) ranges ∙ pages_core st lib.0 b j.kept j.given;
        pages = pages_new st lib.0 b j.kept j.given;
        first = lt-ltb 0 range.first (subst (λ (rg : CoreRange). 0 < rg.first) (sym ranges) low_first);
        children = few_children st lib.0 b j;
      }
    where
      free_number : (n : ℕ) → In n b.numbers → is_free_number s.rows inodes n ≡ true
      free_number n i =
          let j = judgeable s first table files creds entries begun k lib b given closed in
          let below = within_some st.numbers_out n (ap is_some (given.numbers n i)) in
          let placed : length st.numbers_out ≡ (length s.rows - 1) + 1 = k.stored.kept.numbers_placed in
          let fits : n ≤ inodes = omega (arith, below, placed, table') in
          and_from (ltb 0 n && leb n inodes) (is_none (row_in s.rows n)) (and_from (ltb 0 n) (leb n inodes) (lt-ltb 0 n (above n i)) (le-leb n inodes fits)) (ap is_none (new_dead st lib.0 b j n i))
        where
          above : (n : ℕ) → In n b.numbers → 0 < n
          above zero i = (let out : lib_at s.allotments.numbers 0 ≡ Some (record { 0 = lib.0 }) = given.numbers 0 i in let none = k.no_zero in absurd cc)
          above (suc n) i = omega arith
