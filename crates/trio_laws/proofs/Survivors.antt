-- What an accepted bundle leaves of the files that it doesn't write or hold, and of what is out.
use Rattle.trio_laws.proofs.Words.{◌&&◌, ◌++◌, ◌<◌, ◌||◌, ◌∙◌, ◌≡◌, ◌≤◌, ◌⊎◌, Body, Bool, Bundle, Chain, Core, Creds, FileRead, GivenTo, Image, In, In-is_among, IsFit, Kept, Kind, Met, None, Option, Pick, Row, Some, State, Written, and_parts, ap, arith, body_of, both_ways, bundle_pages, bytes_eq, bytes_eq-Decides, cond, eqb, false, false≢true, file_of, find, fit_proposed, free_unlisted, has_kind, has_owner, inl, inr, is_accepted, is_allowed, is_among, is_among-In, is_some, is_sound, keeps_rows, list_all, list_all-In, lists_own, may_stand, met_numbered, met_row, not, not-true, one_met, or_cases, pages_are, pages_of, plain, proposed, proposed_pick, read_met, reads_from, refl, row_at, row_by, row_of, same_kind_is, same_row, settled, settled_body, settled_body_met, sheet_numbers, slice_index, some_of, subst, survey, sym, true, up_to_at, ℕ}
use Rattle.std.specs.Prelude.{Ok}
use Rattle.trio_laws.proofs.Bundles.{held_unwritten, Unwritten, finds_unwritten, written_lent, bundle_page, kept_chain, body_picked}
use Rattle.trio_surveys.proofs.Alike.{same_row_is}
use Rattle.trio_laws.proofs.StateFacts.{tables, live_met, lent_met}

-- the cases of what is asked of a file that is met
pub stand_cases : (h l w x y z : Bool) → cond h x (cond l (cond w y true) z) ≡ true → ((h ≡ true) × (x ≡ true)) ⊎ (((h ≡ false) × (l ≡ true) × (w ≡ true) × (y ≡ true)) ⊎ (((h ≡ false) × (l ≡ true) × (w ≡ false)) ⊎ ((h ≡ false) × (l ≡ false) × (z ≡ true))))
stand_cases h l w x y z e = search arith

pub has_kind_is : (kind : Kind) (o : Option Row) → has_kind kind o ≡ true → (r : Row) × (o ≡ Some r) × (kind ≡ r.kind)
has_kind_is kind None e = absurd (false≢true e)
has_kind_is kind (Some r) e = (r, refl, same_kind_is kind r.kind e)

-- a file that stays, with the file that it is now
pub record Stays (image : Image) (core : Core) (pick : Pick) (n : ℕ) (r : Row) : Type 0 where
  pub met : Met
  pub file : FileRead
  pub stands : In met (survey core pick)
  pub read : file_of core met ≡ Ok file
  pub number : met.ino ≡ n
  pub row : r ≡ row_by met file.body
  pub body : met.body ≡ settled_body image n

module _ (s : State) (k : Kept s) (lib : ℕ) (creds : Creds) (b : Bundle) (given : GivenTo s lib b) (accepted : is_accepted (settled s) creds b ≡ true) where
  abbrev pub image : Image
  image = settled s

  abbrev pub core : Core
  core = proposed (settled s) b

  abbrev pub pick : Pick
  pick = proposed_pick (settled s) b

  pub fit_now : IsFit core
  fit_now = fit_proposed image b k.fit given.full

  pub sound_now : is_sound core pick ≡ true
  sound_now = (and_parts (is_sound core pick) (is_allowed image creds b core (survey core pick)) accepted).0

  allowed : (keeps_rows image b core (survey core pick) ≡ true) × (list_all (may_stand image creds b core (survey core pick)) (survey core pick) ≡ true)
  allowed = search (arith, and_parts)

  -- a live file that the bundle doesn't hold or write stays
  pub unheld_row : (n : ℕ) (r : Row) → row_at image n ≡ Some r → (In n b.holds → ⊥) → row_of core (survey core pick) n ≡ Some r
  unheld_row n r row unheld =
      let m0 = live_met s k n r row in
      let num = met_numbered (settled s).core plain k.fit k.verifies.sound m0.met m0.stands in
      let is_n = m0.number in
      let num0 : 0 < m0.met.ino = num.0 in
      let num1 : m0.met.ino ≤ core.inodes = num.1 in
      let low : 0 < n = subst (λ x. 0 < x) is_n num0 in
      let high : n ≤ core.inodes = subst (λ x. x ≤ core.inodes) is_n num1 in
      let at = up_to_at (λ n. not (is_some (row_at image n)) || is_among n b.holds || same_row (row_at image n) (row_of core (survey core pick) n)) core.inodes n allowed.0 low high in
      let same : same_row (row_at image n) (row_of core (survey core pick) n) ≡ true = search (arith, or_cases, both_ways, not-true, is_among-In) in
      same_row_is r (row_of core (survey core pick) n) (sym (ap (λ o. same_row o (row_of core (survey core pick) n)) row) ∙ same)

  pub stays : (n : ℕ) (r : Row) → row_at image n ≡ Some r → (In n b.holds → ⊥) → Unwritten b n → Stays image core pick n r
  stays n r row unheld un =
      let m = met_row core pick fit_now sound_now n r (unheld_row n r row unheld) in
      let row' : row_at image m.met.ino ≡ Some r = ap (row_at image) m.number ∙ row in
      let un' : Unwritten b m.met.ino = subst (λ x. Unwritten b x) (sym m.number) un in
      record {
        met = m.met;
        file = m.file;
        stands = m.stands;
        read = m.read;
        number = m.number;
        row = m.row;
        body =
            body_picked s k lib b given fit_now sound_now m.met r m.stands row' (ap (λ (x : Row). x.parent) m.row) (ap (λ (x : Row). x.page) m.row) (ap (λ (x : Row). x.slot) m.row) un'
            ∙ ap (settled_body image) m.number;
      }

  -- each file of the proposed core is one that was there, unwritten, or lists pages of the bundle alone
  pub classify : (m : Met) → In m (survey core pick) → ((r : Row) × (row_at image m.ino ≡ Some r) × (m.kind ≡ r.kind) × (m.body ≡ settled_body image m.ino) × Unwritten b m.ino) ⊎ (lists_own b core m ≡ true)
  classify m i =
      let h : Bool = is_among m.ino b.holds in
      let l : Bool = is_some (row_at image m.ino) in
      let w : Bool = is_some (find (λ (w : Written). eqb w.ino m.ino) b.writes) in
      let x : Bool = has_kind m.kind (row_at image m.ino) && bytes_eq m.body (settled_body image m.ino) in
      let z : Bool = is_among m.ino b.numbers && has_owner creds (row_of core (survey core pick) m.ino) && lists_own b core m in
      let e = list_all-In (may_stand image creds b core (survey core pick)) m (survey core pick) allowed.1 i in
      elim (stand_cases h l w x (lists_own b core m) z e) [
        | inl held ↦
            let p = and_parts (has_kind m.kind (row_at image m.ino)) (bytes_eq m.body (settled_body image m.ino)) held.1 in
            let r = has_kind_is m.kind (row_at image m.ino) p.0 in
            inl (r.0, r.1, r.2, (bytes_eq-Decides m.body (settled_body image m.ino)).0 p.1, held_unwritten s k lib b given m.ino (is_among-In m.ino b.holds held.0))
        | inr rest ↦
            elim rest [
              | inl written ↦ inr written.3
              | inr rest' ↦
                  elim rest' [
                    | inl live ↦
                        let r = some_of (row_at image m.ino) live.1 in
                        let un = finds_unwritten b m.ino live.2 in
                        let unheld : In m.ino b.holds → ⊥ = λ j. both_ways (is_among m.ino b.holds) live.0 (In-is_among m.ino b.holds j) in
                        let st = stays m.ino r.0 r.1 unheld un in
                        let same : st.met ≡ m = one_met core pick fit_now sound_now st.met m st.stands i st.number in
                        let kind : m.kind ≡ r.0.kind = ap (λ (y : Met). y.kind) (sym same) ∙ ap (λ (y : Row). y.kind) (sym st.row) in
                        inl (r.0, r.1, kind, ap (λ (y : Met). y.body) (sym same) ∙ st.body, un)
                    | inr new ↦ inr (and_parts (is_among m.ino b.numbers && has_owner creds (row_of core (survey core pick) m.ino)) (lists_own b core m) new.2).1
                  ]
            ]
      ]

  -- a free page that isn't handed in stays free
  pub out_unlisted : (p : ℕ) → slice_index s.home.owners p ≡ 0 → (In p (sheet_numbers b.pages) → ⊥) → (m : Met) → In m (survey core pick) → In p (pages_of core m) → ⊥
  out_unlisted p zero' none m i a =
      elim (classify m i) [
        | inl c ↦
            let m0 = live_met s k m.ino c.0 c.1 in
            let f = read_met core pick fit_now sound_now m i in
            let un : Unwritten b m0.met.ino = subst (λ x. Unwritten b x) (sym m0.number) c.4 in
            let kind : m.kind ≡ m0.met.kind = c.2 ∙ ap (λ (y : Row). y.kind) m0.row in
            let body : m.body ≡ m0.met.body = c.3 ∙ ap (settled_body image) (sym m0.number) ∙ settled_body_met image m0.met k.fit k.verifies.sound (tables s k) m0.stands in
            let chain = kept_chain s k lib b given m m0.met f.0 m0.file m0.stands m0.read f.1 un kind body in
            let b' : In p (pages_of (settled s).core m0.met) =
            subst (λ l. In p l) (pages_are core m f.0 f.1 ∙ ap (λ (c : Chain). c.index ++ c.blocks) chain ∙ sym (pages_are (settled s).core m0.met m0.file m0.read)) a in
            free_unlisted (settled s).core plain k.fit k.verifies.sound (settled s) (tables s k) p zero' m0.met m0.stands b'
        | inr own ↦
            let j = is_among-In p (bundle_pages b) (list_all-In (λ page. is_among page (bundle_pages b)) p (pages_of core m) own a) in
            elim (bundle_page s k lib b given p j) [
              | inl handed ↦ none handed
              | inr w ↦
                  let g = given.writes w.0 w.1 in
                  let l = k.lent g.grant g.is_open g.kind in
                  free_unlisted (settled s).core plain k.fit k.verifies.sound (settled s) (tables s k) p zero' l.met l.stands (lent_met s k g.grant g.is_open g.kind p (written_lent s k lib b given w.0 w.1 p w.2))
            ]
      ]

  -- a number that isn't live and isn't handed in stays so
  pub number_free : (n : ℕ) → row_at image n ≡ None → (In n b.numbers → ⊥) → row_of core (survey core pick) n ≡ None
  number_free n dead none = by_row (row_of core (survey core pick) n) refl
    where
      by_row : (o : Option Row) → row_of core (survey core pick) n ≡ o → o ≡ None
      by_row None e = refl
      by_row (Some r) e =
          let q = met_row core pick fit_now sound_now n r e in
          let m : Met = q.met in
          let dead' : row_at image m.ino ≡ None = ap (row_at image) q.number ∙ dead in
          let h : Bool = is_among m.ino b.holds in
          let l : Bool = is_some (row_at image m.ino) in
          let w : Bool = is_some (find (λ (w : Written). eqb w.ino m.ino) b.writes) in
          let x : Bool = has_kind m.kind (row_at image m.ino) && bytes_eq m.body (settled_body image m.ino) in
          let z : Bool = is_among m.ino b.numbers && has_owner creds (row_of core (survey core pick) m.ino) && lists_own b core m in
          let t = list_all-In (may_stand image creds b core (survey core pick)) m (survey core pick) allowed.1 q.stands in
          let not_live : l ≡ true → ⊥ = λ y. false≢true (sym (ap is_some dead') ∙ y) in
          elim (stand_cases h l w x (lists_own b core m) z t) [
            | inl held ↦ search (arith, and_parts, has_kind_is)
            | inr rest ↦ search (arith, and_parts, is_among-In)
          ]

  -- a held file that is met has its kind and its settled body
  pub held_met : (n : ℕ) (r : Row) (m : Met) → In n b.holds → row_at image n ≡ Some r → In m (survey core pick) → m.ino ≡ n → (m.kind ≡ r.kind) × (m.body ≡ settled_body image n)
  held_met n r m held row i num = search (arith, In-is_among, list_all-In, allowed, and_parts, has_kind_is, bytes_eq-Decides)

  -- and so its rights
  pub held_rights : (n : ℕ) (r q : Row) → In n b.holds → row_at image n ≡ Some r → row_of core (survey core pick) n ≡ Some q → (q.kind ≡ r.kind) × (q.mode ≡ r.mode) × (q.uid ≡ r.uid) × (q.gid ≡ r.gid)
  held_rights n r q held row e =
      let m = met_row core pick fit_now sound_now n q e in
      let m0 = live_met s k n r row in
      let h = held_met n r m.met held row m.stands m.number in
      let kind : m.met.kind ≡ r.kind = h.0 in
      let body : m.met.body ≡ m0.met.body =
      h.1
      ∙ ap (settled_body image) (sym m0.number)
      ∙ settled_body_met image m0.met k.fit k.verifies.sound (tables s k) m0.stands in
      let a = reads_from core m.met m.file m.read in
      let a0 = reads_from image.core m0.met m0.file m0.read in
      let bodies : Some m.file.body ≡ Some m0.file.body =
      sym a.body ∙ ap (λ c. body_of c image.core.range m.met.body) (kind ∙ ap (λ (y : Row). y.kind) m0.row) ∙ ap (body_of m0.met.kind image.core.range) body ∙ a0.body in
      let same : m.file.body ≡ m0.file.body = cc bodies in (
        ap (λ (y : Row). y.kind) m.row ∙ kind,
        ap (λ (y : Row). y.mode) m.row ∙ ap (λ (y : Body). y.mode) same ∙ ap (λ (y : Row). y.mode) (sym m0.row),
        ap (λ (y : Row). y.uid) m.row ∙ ap (λ (y : Body). y.uid) same ∙ ap (λ (y : Row). y.uid) (sym m0.row),
        ap (λ (y : Row). y.gid) m.row ∙ ap (λ (y : Body). y.gid) same ∙ ap (λ (y : Row). y.gid) (sym m0.row),
      )
