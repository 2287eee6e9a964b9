-- The test of the tables is the test of the files.
use Rattle.trio_proposal.proofs.Words.{◌&&◌, ◌<◌, ◌||◌, ◌∙◌, ◌∷◌, ◌≡◌, ◌≤◌, ◌⊎◌, Bool, Bundle, Core, Creds, Image, In, IsFit, List, Met, None, Option, Pick, Row, Some, [], and_from, and_parts, ap, arith, both_ways, bundle_pages, cond, eqb, false, false≢true, inl, inr, is_allowed, is_among, is_some, is_sound, is_written, leb, ltb, met_numbered, met_row, ne_eqb, not, owner_of, read_met, refl, row_at, row_may, row_met, row_of, subst, suc, survey, sym, true, zero, ℕ}
use Rattle.std.specs.List.{list_all}
use Rattle.std.proofs.lemmas.Bool.{or_cases, or_left, or_right, leb-true, ltb-true, not-true}
use Rattle.trio_layout.specs.Survey.{pages_of}
use Rattle.trio_layout.specs.Allowed.{same_row, all_up_to, keeps_rows, lists_own, has_owner, may_stand}
use Rattle.trio_surveys.proofs.Alike.{up_to_at, same_row_is}
use Rattle.trio_surveys.proofs.Cores.{listed_is_core}
use Rattle.trio_lists.proofs.Members.{list_all-In, list_all-each, is_among-In}
use Rattle.trio_surveys.proofs.Owned.{sound_parts, owner_is}

pub up_to_from : (p : ℕ → Bool) (n : ℕ) → ((j : ℕ) → 1 ≤ j → j ≤ n → p j ≡ true) → all_up_to p n ≡ true
up_to_from p zero h = refl
up_to_from p (suc n) h = and_from (all_up_to p n) (p (suc n)) (up_to_from p n (λ j low high. h j low (omega (arith, high)))) (h (suc n) (omega arith) (omega arith))

-- a page with an owner is listed by that file
pub owner_from : (core : Core) (files : List Met) (p : ℕ) → (owner_of core files p ≡ 0) ⊎ ((m : Met) × In m files × In p (pages_of core m) × (owner_of core files p ≡ m.ino))
owner_from core [] p = inl refl
owner_from core (x ∷ xs) p = by (is_among p (pages_of core x)) refl (owner_from core xs p)
  where
    by : (t : Bool) → is_among p (pages_of core x) ≡ t → (owner_of core xs p ≡ 0) ⊎ ((m : Met) × In m xs × In p (pages_of core m) × (owner_of core xs p ≡ m.ino))
        → (cond t x.ino (owner_of core xs p) ≡ 0) ⊎ ((m : Met) × In m (x ∷ xs) × In p (pages_of core m) × (cond t x.ino (owner_of core xs p) ≡ m.ino))
    by true t rest = inr (x, inl refl, is_among-In p (pages_of core x) t, refl)
    by false t (inl z) = inl z
    by false t (inr r) = inr (r.0, inr r.1, r.2, r.3)

-- what is asked of the owner of a page, in the words of the bundle
abbrev pub may_own : Image → Bundle → ℕ → ℕ → Bool
may_own image b page owner = eqb owner 0 || is_among page (bundle_pages b) || (is_some (row_at image owner) && not (is_written b owner))

module _ (image : Image) (creds : Creds) (b : Bundle) (no_holds : b.holds ≡ []) (core : Core) (pick : Pick) (fit : IsFit core) (sound : is_sound core pick ≡ true) where
  abbrev files : List Met
  files = survey core pick

  abbrev pub RowsStand : Type 0
  RowsStand = (n : ℕ) → 1 ≤ n → n ≤ core.inodes → row_may creds (is_among n b.numbers) (row_at image n) (row_of core (survey core pick) n) ≡ true

  abbrev pub OwnersStand : Type 0
  OwnersStand = (p : ℕ) → core.range.first ≤ p → p < core.range.end → may_own image b p (owner_of core (survey core pick) p) ≡ true

  unheld : (n : ℕ) → is_among n b.holds ≡ false
  unheld n = ap (is_among n) no_holds

  -- what is asked of a file, where no file is held
  asks : (m : Met) → may_stand image creds b core files m ≡ cond (is_some (row_at image m.ino)) (cond (is_written b m.ino) (lists_own b core m) true) (is_among m.ino b.numbers && has_owner creds (row_of core files m.ino) && lists_own b core m)
  asks m = rw (unheld m.ino) refl

  row_from : (before after : Option Row) (h : Bool) → row_may creds h before after ≡ true → is_some before ≡ true → same_row before after ≡ true
  row_from (Some r) after h e t = e
  row_from None after h e t = absurd (false≢true t)

  new_from : (before after : Option Row) (h : Bool) → row_may creds h before after ≡ true → is_some before ≡ false → is_some after ≡ true → (h && has_owner creds after) ≡ true
  new_from (Some r) after h e f t = absurd cc
  new_from None (Some r) h e f t = e
  new_from None None h e f t = absurd (false≢true t)

  keeps : RowsStand → keeps_rows image b core files ≡ true
  keeps rows =
      up_to_from (λ n. not (is_some (row_at image n)) || is_among n b.holds || same_row (row_at image n) (row_of core files n)) core.inodes
      (λ n low high. by n (is_some (row_at image n)) refl (rows n low high))
    where
      by : (n : ℕ) (t : Bool) → is_some (row_at image n) ≡ t → row_may creds (is_among n b.numbers) (row_at image n) (row_of core files n) ≡ true → (not (is_some (row_at image n)) || is_among n b.holds || same_row (row_at image n) (row_of core files n)) ≡ true
      by n true t e = or_right (not (is_some (row_at image n)) || is_among n b.holds) (same_row (row_at image n) (row_of core files n)) (row_from (row_at image n) (row_of core files n) (is_among n b.numbers) e t)
      by n false t e = or_left (not (is_some (row_at image n)) || is_among n b.holds) (same_row (row_at image n) (row_of core files n)) (or_left (not (is_some (row_at image n))) (is_among n b.holds) (ap not t))

  -- the owner of each page that a file lists
  owned : OwnersStand → (m : Met) (p : ℕ) → In m files → In p (pages_of core m) → may_own image b p m.ino ≡ true
  owned owners m p i a =
      let f = read_met core pick fit sound m i in
      let c = and_parts (leb core.range.first p) (ltb p core.range.end) (listed_is_core core m f.0 p f.1 a) in
      sym (ap (may_own image b p) (owner_is core files m p (sound_parts core pick sound).paged i a))
      ∙ owners p (leb-true core.range.first p c.0) (ltb-true p core.range.end c.1)

  -- a file whose owner row gives it no page of others lists the bundle's pages alone
  own_pages : OwnersStand → (m : Met) → In m files → (is_some (row_at image m.ino) && not (is_written b m.ino)) ≡ false → lists_own b core m ≡ true
  own_pages owners m i closed =
      list_all-each (λ page. is_among page (bundle_pages b)) (pages_of core m)
      (λ p a.
      let low : 0 < m.ino = (met_numbered core pick fit sound m i).0 in
      let some' : eqb m.ino 0 ≡ false = ne_eqb m.ino 0 (omega (arith, low)) in
      elim (or_cases (eqb m.ino 0 || is_among p (bundle_pages b)) (is_some (row_at image m.ino) && not (is_written b m.ino)) (owned owners m p i a)) [
        | inr live ↦ absurd (both_ways (is_some (row_at image m.ino) && not (is_written b m.ino)) closed live)
        | inl e ↦
            elim (or_cases (eqb m.ino 0) (is_among p (bundle_pages b)) e) [
              | inl zero' ↦ absurd (both_ways (eqb m.ino 0) some' zero')
              | inr among ↦ among
            ]
      ])

  stands : RowsStand → OwnersStand → (m : Met) → In m files → may_stand image creds b core files m ≡ true
  stands rows owners m i =
      asks m ∙ by (is_some (row_at image m.ino)) refl (is_written b m.ino) refl
    where
      by : (l : Bool) → is_some (row_at image m.ino) ≡ l → (w : Bool) → is_written b m.ino ≡ w → cond l (cond w (lists_own b core m) true) (is_among m.ino b.numbers && has_owner creds (row_of core files m.ino) && lists_own b core m) ≡ true
      by true l true w = own_pages owners m i (rw (l, w) refl)
      by true l false w = refl
      by false l w e =
          let n = met_numbered core pick fit sound m i in
          let f = read_met core pick fit sound m i in
          let row = row_met core pick fit sound m f.0 i f.1 in
          and_from (is_among m.ino b.numbers && has_owner creds (row_of core files m.ino)) (lists_own b core m)
          (new_from (row_at image m.ino) (row_of core files m.ino) (is_among m.ino b.numbers) (rows m.ino n.0 n.1) l (ap is_some row))
          (own_pages owners m i (rw l refl))

  pub allowed_from : RowsStand → OwnersStand → is_allowed image creds b core files ≡ true
  allowed_from rows owners =
      and_from (keeps_rows image b core files) (list_all (may_stand image creds b core files) files) (keeps rows)
      (list_all-each (may_stand image creds b core files) files (stands rows owners))

  allowed_parts : is_allowed image creds b core files ≡ true → (keeps_rows image b core files ≡ true) × (list_all (may_stand image creds b core files) files ≡ true)
  allowed_parts h = and_parts (keeps_rows image b core files) (list_all (may_stand image creds b core files) files) h

  asked : is_allowed image creds b core files ≡ true → (m : Met) → In m files → cond (is_some (row_at image m.ino)) (cond (is_written b m.ino) (lists_own b core m) true) (is_among m.ino b.numbers && has_owner creds (row_of core files m.ino) && lists_own b core m) ≡ true
  asked h m i = sym (asks m) ∙ list_all-In (may_stand image creds b core files) m files (allowed_parts h).1 i

  same_from : (h : is_allowed image creds b core files ≡ true) (n : ℕ) → 1 ≤ n → n ≤ core.inodes → is_some (row_at image n) ≡ true → same_row (row_at image n) (row_of core files n) ≡ true
  same_from h n low high t =
      let at = up_to_at (λ n. not (is_some (row_at image n)) || is_among n b.holds || same_row (row_at image n) (row_of core files n)) core.inodes n (allowed_parts h).0 low high in
      elim (or_cases (not (is_some (row_at image n)) || is_among n b.holds) (same_row (row_at image n) (row_of core files n)) at) [
        | inr e ↦ e
        | inl e ↦
            elim (or_cases (not (is_some (row_at image n))) (is_among n b.holds) e) [
              | inl dead ↦ absurd (both_ways (is_some (row_at image n)) (not-true (is_some (row_at image n)) dead) t)
              | inr held ↦ absurd (both_ways (is_among n b.holds) (unheld n) held)
            ]
      ]

  -- each live number has its row as before
  pub row_stays : is_allowed image creds b core files ≡ true → (n : ℕ) (r : Row) → 1 ≤ n → n ≤ core.inodes → row_at image n ≡ Some r → row_of core files n ≡ Some r
  row_stays h n r low high e =
      same_row_is r (row_of core files n) (sym (ap (λ o. same_row o (row_of core files n)) e) ∙ same_from h n low high (ap is_some e))

  pub rows_stand : is_allowed image creds b core files ≡ true → RowsStand
  rows_stand h n low high = by (row_at image n) refl (row_of core files n) refl
    where
      by : (before : Option Row) → row_at image n ≡ before → (after : Option Row) → row_of core files n ≡ after → row_may creds (is_among n b.numbers) before after ≡ true
      by (Some r) e after f = rw (e, f) at (same_from h n low high (ap is_some e))
      by None e None f = refl
      by None e (Some q) f =
          let k = met_row core pick fit sound n q f in
          let own : Bool = lists_own b core k.met in
          let at = subst (λ x. cond (is_some (row_at image x)) (cond (is_written b x) own true) (is_among x b.numbers && has_owner creds (row_of core files x) && own) ≡ true) k.number (asked h k.met k.stands) in
          let new = subst (λ o. cond (is_some o) (cond (is_written b n) own true) (is_among n b.numbers && has_owner creds (row_of core files n) && own) ≡ true) e at in
          let found' = subst (λ o. (is_among n b.numbers && has_owner creds o && own) ≡ true) f new in
          (and_parts (is_among n b.numbers && has_owner creds (Some q)) own found').0

  pub owners_stand : is_allowed image creds b core files ≡ true → OwnersStand
  owners_stand h p low high =
      elim (owner_from core files p) [
        | inl z ↦ rw z refl
        | inr r ↦ rw r.3 (by r.0 r.2 (is_some (row_at image r.0.ino)) refl (is_written b r.0.ino) refl (asked h r.0 r.1))
      ]
    where
      own : (m : Met) → In p (pages_of core m) → lists_own b core m ≡ true → may_own image b p m.ino ≡ true
      own m a e =
          or_left (eqb m.ino 0 || is_among p (bundle_pages b)) (is_some (row_at image m.ino) && not (is_written b m.ino))
          (or_right (eqb m.ino 0) (is_among p (bundle_pages b)) (list_all-In (λ page. is_among page (bundle_pages b)) p (pages_of core m) e a))

      by : (m : Met) → In p (pages_of core m) → (l : Bool) → is_some (row_at image m.ino) ≡ l → (w : Bool) → is_written b m.ino ≡ w
          → cond (is_some (row_at image m.ino)) (cond (is_written b m.ino) (lists_own b core m) true) (is_among m.ino b.numbers && has_owner creds (row_of core files m.ino) && lists_own b core m) ≡ true
          → may_own image b p m.ino ≡ true
      by m a true l true w e = own m a (rw (l, w) at e)
      by m a true l false w e =
          or_right (eqb m.ino 0 || is_among p (bundle_pages b)) (is_some (row_at image m.ino) && not (is_written b m.ino)) (rw (l, w) refl)
      by m a false l w f e =
          own m a (and_parts (is_among m.ino b.numbers && has_owner creds (row_of core files m.ino)) (lists_own b core m) (rw l at e)).1
