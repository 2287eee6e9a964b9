-- A block that a library was lent and did not touch is handed in as it was lent.
use Rattle.trio_laws.proofs.Words.{◌&&◌, ◌++◌, ◌∙◌, ◌∷◌, ◌≡◌, Bool, Bundle, Core, FileRead, GivenTo, Handed, HandedFile, HandedPage, In, In-cases, In-right, IsMarked, Kept, LentWhole, List, Met, OpenGrant, Row, Sheet, State, Written, [], and_parts, ap, are_new, are_new-append, are_new-fewer, both_ways, bundle_handed, bundle_sheets, eq-eqb, eqb, eqb-true, false, file_of, flat_map, flat_map-In, free_unlisted, index_apart, inl, inr, is_some, is_touched, is_write, list_any, map-In, or_parts, pages_are, pages_new, pages_of, plain, refl, row_at, settled, sheet_handed, sheet_numbers, slice_index, sound_parts, subst, survey, sym, true, written_handed, ℕ}
use Rattle.std.specs.Prelude.{Ok, Some}
use Rattle.trio_laws.proofs.Bundles.{in_numbers}
use Rattle.trio_laws.proofs.StateFacts.{tables, write_alone, lent_file}
use Rattle.trio_laws.proofs.history.Listing.{met_at}
use Rattle.trio_laws.proofs.history.OldBytes.{lent_is}
use Rattle.trio_laws.proofs.Checkpoints.{one_sheet}
use Rattle.trio_laws.proofs.history.Writers.{writes}

touched_step : (p : HandedPage) (page : ℕ) → p.no ≡ page → (eqb p.no page && p.touched) ≡ false → p.touched ≡ false
touched_step p page at t = sym (ap (λ x. x && p.touched) (eq-eqb p.no page at)) ∙ t

any_false : {X : Type 0} (test : X → Bool) (xs : List X) (x : X) → list_any test xs ≡ false → In x xs → test x ≡ false
any_false test (z ∷ zs) x f (inl same) = ap test same ∙ (or_parts (test z) (list_any test zs) f).0
any_false test (z ∷ zs) x f (inr i) = any_false test zs x (or_parts (test z) (list_any test zs) f).1 i
any_false test [] x f i = absurd i

module _ (s : State) (k : Kept s) (whole : LentWhole s) (lib : ℕ) (h : Handed) (given : GivenTo s lib (bundle_handed h)) (marked : (w : HandedFile) → In w h.writes → IsMarked s lib w) where
  in_appended : (xs ys : List Sheet) (p : ℕ) → In p (sheet_numbers ys) → In p (sheet_numbers (xs ++ ys))
  in_appended xs ys p i = (let a = map-In (λ (z : Sheet). z.page) p ys i in in_numbers (xs ++ ys) a.0 p (In-right a.0 xs ys a.1) a.2)

  blocks_new : (m : Met) (f : FileRead) → In m (survey (settled s).core plain) → file_of (settled s).core m ≡ Ok f → are_new [] f.chain.blocks ≡ true
  blocks_new m f i read =
      let core : Core = (settled s).core in
      let all : are_new [] (f.chain.index ++ f.chain.blocks) ≡ true = ap (are_new []) (sym (pages_are core m f read)) ∙ pages_new core (survey core plain) m (sound_parts core plain k.verifies.sound).paged i in
      are_new-fewer [] f.chain.index f.chain.blocks (λ n k. absurd k) (and_parts (are_new [] f.chain.index) (are_new f.chain.index f.chain.blocks) (sym (are_new-append [] f.chain.index f.chain.blocks) ∙ all)).1

  pub handed_same : (n : ℕ) (r : Row) (row : row_at s.home n ≡ Some r) (g : OpenGrant) → In g s.open_grants → writes n g ≡ true → (x : Sheet) → In x g.blocks → is_touched h x.page ≡ false → (y : Sheet) → In y (bundle_sheets (bundle_handed h)) → y.page ≡ x.page → y.bytes ≡ x.bytes
  handed_same n r row g i t x a un y j at =
      let b : Bundle = bundle_handed h in
      let core : Core = (settled s).core in
      let m = met_at (settled s) k.fit k.verifies n r row in
      let blocks = lent_is s k whole n r row g i t in
      let mine : In x.page m.file.chain.blocks = subst (λ l. In x.page l) blocks (in_numbers g.blocks x x.page a refl) in
      let listed : In x.page (pages_of core m.met) = subst (λ l. In x.page l) (sym (pages_are core m.met m.file m.read)) (In-right x.page m.file.chain.index m.file.chain.blocks mine) in
      elim (In-cases y (flat_map (λ (w : Written). w.index ++ w.blocks) b.writes) b.pages j) [
        | inr fresh ↦
            let o = given.pages y.page (in_numbers b.pages y y.page fresh refl) in
            let z : slice_index s.home.owners x.page ≡ 0 = ap (slice_index s.home.owners) (sym at) ∙ k.out_free y.page (ap is_some o) in
            absurd (free_unlisted core plain k.fit k.verifies.sound (settled s) (tables s k) x.page z m.met m.stands listed)
        | inl own ↦
            let w = flat_map-In (λ (w : Written). w.index ++ w.blocks) y b.writes own in
            let l = given.writes w.0 w.1 in
            let lent = k.lent l.grant l.is_open l.kind in
            elim (In-cases y w.0.index w.0.blocks w.2) [
              | inl index ↦
                  let number : In x.page lent.file.chain.index = subst (λ q. In q lent.file.chain.index) at (subst (λ q. In y.page q) (l.index ∙ lent.index) (in_numbers w.0.index y y.page index refl)) in
                  absurd (index_apart core (survey core plain) lent.met m.met lent.file m.file x.page (sound_parts core plain k.verifies.sound).paged lent.stands m.stands lent.read m.read number mine)
              | inr block ↦
                  let here : In y.page (sheet_numbers l.grant.blocks) = subst (λ q. In y.page q) l.blocks (in_numbers w.0.blocks y y.page block refl) in
                  let whose : In x.page (sheet_numbers (l.grant.index ++ l.grant.blocks)) = subst (λ q. In q (sheet_numbers (l.grant.index ++ l.grant.blocks))) at (in_appended l.grant.index l.grant.blocks y.page here) in
                  let number : l.grant.ino ≡ m.met.ino = lent_file s k m.met x.page l.grant m.stands listed l.is_open l.kind whose in
                  let p = and_parts (eqb g.ino n) (is_write g.kind) t in
                  let one : l.grant ≡ g = write_alone s.open_grants l.grant g k.apart l.is_open i l.kind (number ∙ m.number ∙ sym (eqb-true g.ino n p.0)) in
                  let v = map-In written_handed w.0 h.writes w.1 in
                  let q = map-In sheet_handed y v.0.blocks (subst (λ (z : Written). In y z.blocks) v.2 block) in
                  let no : q.0.no ≡ x.page = sym (ap (λ (z : Sheet). z.page) q.2) ∙ at in
                  let inner : list_any (λ (c : HandedPage). eqb c.no x.page && c.touched) v.0.blocks ≡ false = any_false (λ (f : HandedFile). list_any (λ (c : HandedPage). eqb c.no x.page && c.touched) f.blocks) h.writes v.0 un v.1 in
                  let clean : q.0.touched ≡ false = touched_step q.0 x.page no (any_false (λ (c : HandedPage). eqb c.no x.page && c.touched) v.0.blocks q.0 inner q.1) in
                  let ino : g.ino ≡ v.0.ino = sym (ap (λ (z : OpenGrant). z.ino) one) ∙ l.ino ∙ ap (λ (z : Written). z.ino) v.2 in
                  elim (marked v.0 v.1 g q.0 i (sym (ap (λ (z : OpenGrant). z.lib) one) ∙ l.lib) ino q.1) [
                    | inl dirty ↦ absurd (both_ways q.0.touched clean dirty)
                    | inr kept ↦
                        let yin : In y g.blocks = subst (λ z. In z g.blocks) (sym q.2) kept in
                        let new : are_new [] (sheet_numbers g.blocks) ≡ true = ap (are_new []) blocks ∙ blocks_new m.met m.file m.stands m.read in
                        ap (λ (z : Sheet). z.bytes) (one_sheet [] g.blocks y x new yin a at)
                  ]
            ]
      ]
