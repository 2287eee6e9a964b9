-- What an accepted bundle makes of the nodes is just what it shows.
use Rattle.trio_laws.proofs.Words.{◌∙◌, ◌≡◌, Body, Bool, Bundle, Case, Core, Ends, Image, In, In-is_among, IsFit, IsJudgeable, Kept, List, Met, Naming, Node, None, Option, Pick, Row, Some, State, [], ap, arith, body_at, both_ways, bytes_now, case_of, cases_Bool, cond, creds_of, false, inl, inr, is_accepted, is_among, is_among-In, is_among-not, is_place_of, is_sound, kept_body, made_by, met_row, name_of, naming_of, next, node_at, node_by, node_left, node_now, node_of, nodes_of, option_map, placed, proposed, proposed_pick, reads_from, refl, row_at, row_at_is, row_by, row_met, row_of, settled, some_one, subst, survey, sym, true, writer_of, ℕ, guard_now, with_judged}
use Rattle.trio_laws.specs.session.Settles.{AcceptedIsShown}
use Rattle.trio_laws.proofs.Accepting.{accepted_kept}
use Rattle.trio_laws.proofs.Bundles.{closed_unparted}
use Rattle.trio_laws.proofs.Survivors.{unheld_row, held_rights}
use Rattle.trio_laws.proofs.history.Facts.{node_is}
use Rattle.trio_laws.proofs.history.Follows.{body_is_at}
use Rattle.trio_laws.proofs.judgement.MeetingEdges.{met_side, same_file}
use Rattle.trio_laws.proofs.judgement.Taking.{fit, sound}
use Rattle.trio_laws.proofs.session.AcceptedBytes.{bytes_after, judged_bytes, live_bytes, guard_after, judged_guard, live_guard}
use Rattle.trio_laws.proofs.session.AcceptedNames.{row_then, named_then, unnamed_then, left_row}

node_same : (x y : Node) → x.parent ≡ y.parent → x.name ≡ y.name → x.kind ≡ y.kind → x.mode ≡ y.mode → x.uid ≡ y.uid → x.gid ≡ y.gid → x.guard ≡ y.guard → x.bytes ≡ y.bytes → x ≡ y
node_same x y parent name kind mode uid gid guard bytes = search arith

-- a node, once its bytes and its guard are replaced
with_is : (o : Option (List ℕ)) (q : Option Bool) (x y : Node) → y.parent ≡ x.parent → y.name ≡ x.name → y.kind ≡ x.kind → y.mode ≡ x.mode → y.uid ≡ x.uid → y.gid ≡ x.gid → y.guard ≡ guard_after q x.guard → y.bytes ≡ bytes_after o x.bytes → y ≡ with_judged o q x
with_is None None x y a b c d e f g h = node_same y x a b c d e f g h
with_is None (Some guarded) x y a b c d e f g h = node_same y (record x { guard = guarded }) a b c d e f g h
with_is (Some bytes) None x y a b c d e f g h = node_same y (record x { bytes = bytes }) a b c d e f g h
with_is (Some bytes) (Some guarded) x y a b c d e f g h = node_same y (record x { bytes = bytes; guard = guarded }) a b c d e f g h

module _ (s s' : State) (lib : ℕ) (b : Bundle) (j : IsJudgeable s lib b) (acc : is_accepted (settled s) (creds_of s lib) b ≡ true) (ends : Ends s lib b (next (settled s) b) s') where
  abbrev c : Case
  c = case_of (settled s) (creds_of s lib) b

  abbrev core : Core
  core = proposed (settled s) b

  abbrev pick : Pick
  pick = proposed_pick (settled s) b

  abbrev files : List Met
  files = survey (proposed (settled s) b) (proposed_pick (settled s) b)

  abbrev after : Image
  after = next (settled s) b

  abbrev Fit : IsFit (proposed (settled s) b)
  Fit = fit s lib b j acc

  abbrev Sound : is_sound core pick ≡ true
  Sound = sound s lib b j acc

  -- a file that is met keeps kind and rights, where it was there
  met_rights : (n : ℕ) (r q : Row) → row_of core files n ≡ Some q → row_at (settled s) n ≡ Some r → (q.kind ≡ r.kind) × (q.mode ≡ r.mode) × (q.uid ≡ r.uid) × (q.gid ≡ r.gid)
  met_rights n r q now row =
      elim (cases_Bool (is_among n b.holds)) [
        | inl y ↦ held_rights s j.kept lib (creds_of s lib) b j.given acc n r q (is_among-In n b.holds y) row now
        | inr no' ↦
            let unheld : In n b.holds → ⊥ = λ k. both_ways (is_among n b.holds) no' (In-is_among n b.holds k) in
            let same : q ≡ r = some_one (row_of core files n) q r now (unheld_row s j.kept lib (creds_of s lib) b j.given acc n r row unheld) in
            (ap (λ (x : Row). x.kind) same, ap (λ (x : Row). x.mode) same, ap (λ (x : Row). x.uid) same, ap (λ (x : Row). x.gid) same)
      ]

  abbrev before : ℕ → Option Row → Option Node
  before n o = node_by (settled s) n (writer_of s n) o

  -- what the bundle shows of a number, by the entry that names it and its row before
  abbrev shown : ℕ → Option Naming → Option Row → Option Node
  shown n o p = option_map (with_judged (bytes_now c n) (guard_now c n)) (node_left c n o (before n p))

  -- ---- a number that has a file then

  shown_met : (m : Met) → In m files → node_by after m.ino (writer_of s' m.ino) (row_at after m.ino) ≡ node_now c m.ino (before m.ino (row_at (settled s) m.ino))
  shown_met m i =
      ap (node_by after m.ino (writer_of s' m.ino)) row ∙ by (naming_of c m.ino) (row_at (settled s) m.ino) refl refl
    where
      row : row_at (next (settled s) b) m.ino ≡ Some (row_by m (row_then s lib b j acc m i).0.body)
      row = (row_then s lib b j acc m i).2

      now : row_of core files m.ino ≡ Some (row_by m (row_then s lib b j acc m i).0.body)
      now = row_met core pick Fit Sound m (row_then s lib b j acc m i).0 i (row_then s lib b j acc m i).1

      by : (o : Option Naming) (p : Option Row) → naming_of c m.ino ≡ o → row_at (settled s) m.ino ≡ p
          → Some (node_of after m.ino (writer_of s' m.ino) (row_by m (row_then s lib b j acc m i).0.body)) ≡ shown m.ino (naming_of c m.ino) (row_at (settled s) m.ino)
      by (Some e) (Some r) h p =
          let f = (row_then s lib b j acc m i).0 in
          let T = named_then s lib b j acc m.ino e h in
          let same : T.met ≡ m = same_file s lib b j acc T.met m T.stands i T.number in
          let rows : row_by m f.body ≡ row_by T.met T.file.body = some_one (row_at after m.ino) (row_by m f.body) (row_by T.met T.file.body) row T.row in
          let rights = met_rights m.ino r (row_by m f.body) now p in
          let x : Node = placed e (node_of (settled s) m.ino (writer_of s m.ino) r) in
          let y : Node = node_of after m.ino (writer_of s' m.ino) (row_by m f.body) in
          let is : y ≡ with_judged (bytes_now c m.ino) (guard_now c m.ino) x =
          with_is (bytes_now c m.ino) (guard_now c m.ino) x y (ap (λ (z : Met). z.parent) (sym same) ∙ T.parent) (ap (name_of after m.ino) rows ∙ T.name) rights.0 rights.1 rights.2 rights.3
          (live_guard s s' lib b j acc ends m (row_by m f.body) i row)
          (live_bytes s s' lib b j acc ends m r (row_by m f.body) i p row refl (sym rights.0)) in
          ap (λ z. Some z) is ∙ sym (ap (λ q. shown m.ino q (row_at (settled s) m.ino)) h ∙ ap (shown m.ino (Some e)) p)
      by (Some e) None h p =
          let f = (row_then s lib b j acc m i).0 in
          let T = named_then s lib b j acc m.ino e h in
          let same : T.met ≡ m = same_file s lib b j acc T.met m T.stands i T.number in
          let rows : row_by m f.body ≡ row_by T.met T.file.body = some_one (row_at after m.ino) (row_by m f.body) (row_by T.met T.file.body) row T.row in
          let slot : m.body ≡ e.listed.body =
          ap (λ (z : Met). z.body) (sym same) ∙ T.body
          ∙ ap (λ q. cond (is_place_of e.directory e.listed.page e.listed.slot q) (kept_body (settled s) b m.ino) e.listed.body) p in
          let body : f.body ≡ body_at e.listed.body =
          sym (body_is_at m.kind core.range m.body f.body (reads_from core m f (row_then s lib b j acc m i).1).body) ∙ ap body_at slot in
          let x : Node = made_by e in
          let y : Node = node_of after m.ino (writer_of s' m.ino) (row_by m f.body) in
          let is : y ≡ with_judged (bytes_now c m.ino) (guard_now c m.ino) x =
          with_is (bytes_now c m.ino) (guard_now c m.ino) x y (ap (λ (z : Met). z.parent) (sym same) ∙ T.parent) (ap (name_of after m.ino) rows ∙ T.name)
          (ap (λ (z : Met). z.kind) (sym same) ∙ T.kind) (ap (λ (z : Body). z.mode) body) (ap (λ (z : Body). z.uid) body) (ap (λ (z : Body). z.gid) body)
          (elim (met_side s lib b j acc m i) [
            | inl k ↦ judged_guard s s' lib b j acc ends m k (row_by m f.body) row x.guard
            | inr o ↦ (let wrong : None ≡ Some o.row = sym p ∙ o.is_row in absurd (cc wrong))
          ])
          (elim (met_side s lib b j acc m i) [
            | inl k ↦ judged_bytes s s' lib b j acc ends m k (row_by m f.body) row refl [] (λ d. refl)
            | inr o ↦ (let wrong : None ≡ Some o.row = sym p ∙ o.is_row in absurd (cc wrong))
          ]) in
          ap (λ z. Some z) is ∙ sym (ap (λ q. shown m.ino q (row_at (settled s) m.ino)) h ∙ ap (shown m.ino (Some e)) p)
      by None None h p = (let U = unnamed_then s lib b j acc m i h in let wrong : None ≡ Some U.row = sym p ∙ U.is_row in absurd (cc wrong))
      by None (Some r) h p =
          let f = (row_then s lib b j acc m i).0 in
          let U = unnamed_then s lib b j acc m i h in
          let same : U.row ≡ r = some_one (row_at (settled s) m.ino) U.row r U.is_row p in
          let rows : row_by m f.body ≡ r = some_one (row_at after m.ino) (row_by m f.body) r row (left_row s lib b j acc m.ino r p U.unheld) in
          let x : Node = node_of (settled s) m.ino (writer_of s m.ino) r in
          let y : Node = node_of after m.ino (writer_of s' m.ino) (row_by m f.body) in
          let name : name_of after m.ino (row_by m f.body) ≡ name_of (settled s) m.ino r =
          U.name (row_by m f.body) row (rows ∙ sym same) ∙ ap (name_of (settled s) m.ino) same in
          let is : y ≡ with_judged (bytes_now c m.ino) (guard_now c m.ino) x =
          with_is (bytes_now c m.ino) (guard_now c m.ino) x y (ap (λ (z : Row). z.parent) rows) name
          (ap (λ (z : Row). z.kind) rows) (ap (λ (z : Row). z.mode) rows) (ap (λ (z : Row). z.uid) rows) (ap (λ (z : Row). z.gid) rows)
          (live_guard s s' lib b j acc ends m (row_by m f.body) i row)
          (live_bytes s s' lib b j acc ends m r (row_by m f.body) i p row refl (sym (ap (λ (z : Row). z.kind) rows))) in
          let free : is_among m.ino b.holds ≡ false = is_among-not m.ino b.holds U.unheld in
          ap (λ z. Some z) is
          ∙ sym (ap (λ q. shown m.ino q (row_at (settled s) m.ino)) h
          ∙ ap (λ t. option_map (with_judged (bytes_now c m.ino) (guard_now c m.ino)) (cond t None (before m.ino (row_at (settled s) m.ino)))) free
          ∙ ap (λ q. option_map (with_judged (bytes_now c m.ino) (guard_now c m.ino)) (before m.ino q)) p)

  -- ---- a number that has none

  shown_unmet : (n : ℕ) → row_at after n ≡ None → None ≡ node_now c n (before n (row_at (settled s) n))
  shown_unmet n row = by (naming_of c n) (row_at (settled s) n) refl refl
    where
      gone : (t : Bool) → option_map (with_judged (bytes_now c n) (guard_now c n)) (cond {A = Option Node} t None None) ≡ None
      gone true = refl
      gone false = refl

      by : (o : Option Naming) (p : Option Row) → naming_of c n ≡ o → row_at (settled s) n ≡ p → None ≡ shown n (naming_of c n) (row_at (settled s) n)
      by (Some e) p h q =
          let T = named_then s lib b j acc n e h in
          let wrong : None ≡ Some (row_by T.met T.file.body) = sym row ∙ T.row in absurd (cc wrong)
      by None None h q = sym (ap (λ z. shown n z (row_at (settled s) n)) h ∙ ap (shown n None) q ∙ gone (is_among n b.holds))
      by None (Some r) h q =
          elim (cases_Bool (is_among n b.holds)) [
            | inl y ↦
                sym (ap (λ z. shown n z (row_at (settled s) n)) h
                ∙ ap (λ t. option_map (with_judged (bytes_now c n) (guard_now c n)) (cond t None (before n (row_at (settled s) n)))) y)
            | inr no' ↦
                let stays = left_row s lib b j acc n r q (λ k. both_ways (is_among n b.holds) no' (In-is_among n b.holds k)) in
                let wrong : None ≡ Some r = sym row ∙ stays in absurd (cc wrong)
          ]

  -- ---- all numbers

  shown_after : (n : ℕ) → node_by after n (writer_of s' n) (row_at after n) ≡ node_now c n (before n (row_at (settled s) n))
  shown_after n = by (row_of core files n) refl
    where
      rows : row_at after n ≡ row_of core files n
      rows = row_at_is core pick Fit Sound after (record { rows = refl; owners = refl }) n

      by : (o : Option Row) → row_of core files n ≡ o → node_by after n (writer_of s' n) (row_at after n) ≡ node_now c n (before n (row_at (settled s) n))
      by None e = ap (node_by after n (writer_of s' n)) (rows ∙ e) ∙ shown_unmet n (rows ∙ e)
      by (Some r) e =
          let q = met_row core pick Fit Sound n r e in
          subst (λ k. node_by after k (writer_of s' k) (row_at after k) ≡ node_now c k (before k (row_at (settled s) k))) q.number (shown_met q.met q.stands)

  pub nodes_then : Kept s' → (n : ℕ) → node_at (nodes_of s') n ≡ node_now c n (node_at (nodes_of s) n)
  nodes_then kept' n = search (arith, node_is, shown_after)

pub accepted_is_shown : AcceptedIsShown
accepted_is_shown s s' lib b j acc ends n =
    nodes_then s s' lib b j acc ends (accepted_kept s s' j.kept lib (creds_of s lib) b j.given (closed_unparted s lib b j.closed) acc ends) n
