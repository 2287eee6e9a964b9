-- Where a bundle meets the four rules, the change is allowed, and so the bundle is accepted.
use Rattle.trio_laws.proofs.Words.{◌&&◌, ◌<◌, ◌||◌, ◌∙◌, ◌≡◌, ◌≤◌, Body, Bool, Bundle, Case, Core, FileRead, In, In-is_among, IsJudgeable, List, Met, Ok, Option, Pick, Row, Some, State, all_up_to, and_from, and_parts, ap, arith, both_ways, bytes_eq, bytes_eq-Decides, case_of, cases_Bool, cond, creds_of, eq-eqb, eqb, eqb-true, false, file_of, has_kind, has_owner, has_rights, inl, inr, is_accepted, is_among, is_among-In, is_some, is_sound, is_written, judged_files, keeps_rows, list_all-each, lists_own, may_stand, meets_rules, not, or_left, or_right, proposed, proposed_pick, read_met, refl, row_at, row_by, row_in, row_met, row_of, same_row, settled, settled_body, some_of, some_one, subst, suc, survey, sym, true, zero, ℕ}
use Rattle.trio_surveys.proofs.Sheets.{not_among}
use Rattle.trio_laws.proofs.judgement.CaseFacts.{fit, new_dead, held_row, held_apart, kept_settled, written_find, written_row, is_written_from, new_not_live}
use Rattle.trio_laws.proofs.judgement.Giving.{reads, sides, rules_sound, met_stands}
use Rattle.trio_laws.proofs.judgement.JudgedFacts.{judged_from, new_from, written_ino}
use Rattle.trio_laws.proofs.judgement.Reaching.{unheld_met}
use Rattle.trio_laws.proofs.judgement.RuleParts.{has_kind_from, same_kind_from, rule_rights}
use Rattle.trio_laws.proofs.judgement.Sides.{Inside, inside_read, inside_own, outside_met, outside_read}

pub up_to_from : (p : ℕ → Bool) (n : ℕ) → ((k : ℕ) → 0 < k → k ≤ n → p k ≡ true) → all_up_to p n ≡ true
up_to_from p zero h = refl
up_to_from p (suc n) h =
    and_from (all_up_to p n) (p (suc n)) (up_to_from p n (λ k a b. h k a (omega (arith, b)))) (h (suc n) (omega arith) (omega arith))

pub same_row_from : (r q : Row) → r.kind ≡ q.kind → r.mode.0 ≡ q.mode.0 → r.uid ≡ q.uid → r.gid ≡ q.gid → r.parent ≡ q.parent → r.page ≡ q.page → r.slot ≡ q.slot → same_row (Some r) (Some q) ≡ true
same_row_from r q kind mode uid gid parent page slot = search (arith, and_from, same_kind_from, eq-eqb)

rights_parts : (o : Option Row) (r : Row) (f : Body) → o ≡ Some r → has_rights o f ≡ true → (r.mode.0 ≡ f.mode.0) × (r.uid ≡ f.uid) × (r.gid ≡ f.gid)
rights_parts o r f e h = search (arith, and_parts, eqb-true)

-- the cases of what is asked of a file that is met, the other way
stand_held : (h l w x y z : Bool) → h ≡ true → x ≡ true → cond h x (cond l (cond w y true) z) ≡ true
stand_held h l w x y z a d = ap (λ t. cond t x (cond l (cond w y true) z)) a ∙ d

stand_written : (h l w x y z : Bool) → h ≡ false → l ≡ true → w ≡ true → y ≡ true → cond h x (cond l (cond w y true) z) ≡ true
stand_written h l w x y z a d e f =
    ap (λ t. cond t x (cond l (cond w y true) z)) a ∙ ap (λ t. cond t (cond w y true) z) d ∙ ap (λ t. cond t y true) e ∙ f

stand_live : (h l w x y z : Bool) → h ≡ false → l ≡ true → w ≡ false → cond h x (cond l (cond w y true) z) ≡ true
stand_live h l w x y z a d e =
    ap (λ t. cond t x (cond l (cond w y true) z)) a ∙ ap (λ t. cond t (cond w y true) z) d ∙ ap (λ t. cond t y true) e

stand_new : (h l w x y z : Bool) → h ≡ false → l ≡ false → z ≡ true → cond h x (cond l (cond w y true) z) ≡ true
stand_new h l w x y z a d e = ap (λ t. cond t x (cond l (cond w y true) z)) a ∙ ap (λ t. cond t (cond w y true) z) d ∙ e

module _ (s : State) (lib : ℕ) (b : Bundle) (j : IsJudgeable s lib b) (h : meets_rules (case_of (settled s) (creds_of s lib) b) ≡ true) where
  abbrev c : Case
  c = case_of (settled s) (creds_of s lib) b

  abbrev core : Core
  core = proposed (settled s) b

  abbrev pick : Pick
  pick = proposed_pick (settled s) b

  abbrev files : List Met
  files = survey (proposed (settled s) b) (proposed_pick (settled s) b)

  sound : is_sound core pick ≡ true
  sound = rules_sound s lib b j h

  -- the rights of a live file that is met are its row's
  live_rights : (m : Met) (f : FileRead) (r : Row) → In m files → file_of core m ≡ Ok f → row_at (settled s) m.ino ≡ Some r → (r.mode.0 ≡ f.body.mode.0) × (r.uid ≡ f.body.uid) × (r.gid ≡ f.body.gid)
  live_rights m f r i e row =
      elim (sides s lib b j h m (met_stands s lib b j h m i)) [
        | inl k ↦
            let q = reads s lib b j h k.file k.judged_one in
            let same : f ≡ q.file = (let t : Ok f ≡ Ok q.file = sym e ∙ inside_read s lib b j (reads s lib b j h) m k in cc t) in
            let row' : row_at (settled s) k.file.ino ≡ Some r = ap (row_at (settled s)) (sym k.ino) ∙ row in
            let written : is_written b k.file.ino ≡ true = judged_live k.file r k.judged_one row' in
            let t : has_rights (row_in c.rows k.file.ino) q.file.body ≡ true =
            sym (ap (λ t. cond t (has_rights (row_in c.rows k.file.ino) q.file.body) (eqb q.file.body.uid c.creds.uid && eqb q.file.body.gid c.creds.gid)) written)
            ∙ rule_rights c h k.file q.file k.judged_one q.within in
            let P : FileRead → Type 0 = λ g. (r.mode.0 ≡ g.body.mode.0) × (r.uid ≡ g.body.uid) × (r.gid ≡ g.body.gid) in
            subst P (sym same) (rights_parts (row_at (settled s) k.file.ino) r q.file.body row' t)
        | inr o ↦
            let q = outside_met s lib b j (reads s lib b j h) m o in
            let same : q.file ≡ f = (let t : Ok q.file ≡ Ok f = sym (outside_read s lib b j (reads s lib b j h) m o) ∙ e in cc t) in
            let is : r ≡ row_by q.met q.file.body = some_one (row_at (settled s) m.ino) r o.row row o.is_row ∙ q.row in (
              ap (λ (x : Row). x.mode.0) is ∙ ap (λ (g : FileRead). g.body.mode.0) same,
              ap (λ (x : Row). x.uid) is ∙ ap (λ (g : FileRead). g.body.uid) same,
              ap (λ (x : Row). x.gid) is ∙ ap (λ (g : FileRead). g.body.gid) same,
            )
      ]
    where
      judged_live : (x : Met) (r : Row) → In x (judged_files c) → row_at (settled s) x.ino ≡ Some r → is_written b x.ino ≡ true
      judged_live x r i e =
          elim (judged_from s lib b j x i) [
            | inl w ↦ ap (is_written b) (ap (λ (y : Met). y.ino) w.2 ∙ written_ino c w.0) ∙ is_written_from s lib b j w.0 w.1
            | inr y ↦ absurd (new_not_live s lib b j x.ino r (new_from s lib b j y.0 x y.2).1 e)
          ]

  -- each live file that isn't held is met with its whole row
  row_kept : (n : ℕ) (r : Row) → row_at (settled s) n ≡ Some r → (In n b.holds → ⊥) → same_row (row_at (settled s) n) (row_of core files n) ≡ true
  row_kept n r e unheld =
      let m = unheld_met s lib b j h n r e unheld in
      let f = read_met core pick (fit s lib b j) sound m.0 m.1 in
      let now : row_of core files n ≡ Some (row_by m.0 f.0.body) = ap (row_of core files) (sym m.2) ∙ row_met core pick (fit s lib b j) sound m.0 f.0 m.1 f.1 in
      let row : row_at (settled s) m.0.ino ≡ Some r = ap (row_at (settled s)) m.2 ∙ e in
      let rights = live_rights m.0 f.0 r m.1 f.1 row in
      ap (λ o. same_row o (row_of core files n)) e
      ∙ ap (same_row (Some r)) now
      ∙ elim (met_stands s lib b j h m.0 m.1) [
        | inr new ↦ absurd (new_not_live s lib b j m.0.ino r new.1 row)
        | inl l ↦ search (arith, some_one, same_row_from)
      ]

  rows_kept : keeps_rows (settled s) b core files ≡ true
  rows_kept =
      up_to_from (λ n. not (is_some (row_at (settled s) n)) || is_among n b.holds || same_row (row_at (settled s) n) (row_of core files n)) core.inodes
      (λ n low high.
      let live : Bool = is_some (row_at (settled s) n) in
      let same : Bool = same_row (row_at (settled s) n) (row_of core files n) in
      elim (cases_Bool live) [
        | inr dead ↦ or_left (not live || is_among n b.holds) same (or_left (not live) (is_among n b.holds) (ap not dead))
        | inl there ↦ search (arith, cases_Bool, or_left, or_right, some_of, row_kept, both_ways, In-is_among)
      ])

  own_pages : (m : Met) (k : Inside s lib b j (reads s lib b j h) m) → lists_own b core m ≡ true
  own_pages m k = search (arith, list_all-each, In-is_among, inside_own, reads)

  stands_so : (m : Met) → In m files → may_stand (settled s) (creds_of s lib) b core files m ≡ true
  stands_so m i =
      let creds = creds_of s lib in
      let H : Bool = is_among m.ino b.holds in
      let L : Bool = is_some (row_at (settled s) m.ino) in
      let W : Bool = is_written b m.ino in
      let X : Bool = has_kind m.kind (row_at (settled s) m.ino) && bytes_eq m.body (settled_body (settled s) m.ino) in
      let Y : Bool = lists_own b core m in
      let Z : Bool = is_among m.ino b.numbers && has_owner creds (row_of core files m.ino) && lists_own b core m in
      elim (met_stands s lib b j h m i) [
        | inl l ↦
            let there : L ≡ true = ap is_some l.is_row in
            elim (cases_Bool H) [
              | inl held ↦
                  let un = held_apart s lib b j m.ino (is_among-In m.ino b.holds held) in
                  stand_held H L W X Y Z held
                  (and_from (has_kind m.kind (row_at (settled s) m.ino)) (bytes_eq m.body (settled_body (settled s) m.ino))
                  (has_kind_from m.kind (row_at (settled s) m.ino) l.row l.is_row l.kind)
                  ((bytes_eq-Decides m.body (settled_body (settled s) m.ino)).1 (l.body ∙ kept_settled s lib b j m.ino un)))
              | inr free ↦
                  elim (cases_Bool W) [
                    | inr un ↦ stand_live H L W X Y Z free there un
                    | inl written ↦
                        elim (sides s lib b j h m (inl l)) [
                          | inl k ↦ stand_written H L W X Y Z free there written (own_pages m k)
                          | inr o ↦ let w = written_find s lib b j m.ino written in absurd (o.unwritten w.0 w.1 w.2)
                        ]
                  ]
            ]
        | inr new ↦
            let dead : L ≡ false = ap is_some (new_dead s lib b j m.ino new.1) in
            let free : H ≡ false =
            not_among m.ino b.holds (λ k. let r = held_row s lib b j m.ino k in new_not_live s lib b j m.ino r.0 new.1 r.1) in
            let k : Inside s lib b j (reads s lib b j h) m = record { file = m; judged_one = new.0; ino = refl; kind = refl; body = refl } in
            let q = reads s lib b j h m new.0 in
            let row : row_of core files m.ino ≡ Some (row_by m q.file.body) = row_met core pick (fit s lib b j) sound m q.file i q.whole in
            let un : W ≡ false = (elim (cases_Bool W) [
              | inr f ↦ f
              | inl t ↦
                  let w = written_find s lib b j m.ino t in
                  let r = written_row s lib b j w.0 w.1 in
                  absurd (new_not_live s lib b j m.ino r.0 new.1 (ap (row_at (settled s)) (sym w.2) ∙ r.1))
            ]) in
            let owned : (eqb q.file.body.uid creds.uid && eqb q.file.body.gid creds.gid) ≡ true =
            sym (ap (λ t. cond t (has_rights (row_in c.rows m.ino) q.file.body) (eqb q.file.body.uid creds.uid && eqb q.file.body.gid creds.gid)) un)
            ∙ rule_rights c h m q.file new.0 q.within in
            stand_new H L W X Y Z free dead
            (and_from (is_among m.ino b.numbers && has_owner creds (row_of core files m.ino)) Y
            (and_from (is_among m.ino b.numbers) (has_owner creds (row_of core files m.ino)) (In-is_among m.ino b.numbers new.1) (ap (has_owner creds) row ∙ owned))
            (own_pages m k))
      ]

  pub rules_allow : is_accepted (settled s) (creds_of s lib) b ≡ true
  rules_allow = search (arith, and_from, sound, rows_kept, list_all-each, stands_so)
