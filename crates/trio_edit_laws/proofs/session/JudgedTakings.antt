-- Which files are judged after more was taken, and what they read.
use Rattle.trio_edit_laws.proofs.Words.{◌++◌, ◌∙◌, ◌∷◌, ◌≡◌, ArePossible, Bundle, DeskSeen, FileRead, Held, In, In-cases, In-map, In-right, InHand, IsAmong, IsInOrder, IsUntouched, IsView, JudgesSame, LentFile, List, Met, Nodes, Ok, Option, Row, Some, Written, [], ap, arith, bundle_core, bundle_of, case_as_stands, case_in_hand, case_with, false≢true, file_within, held_by, inl, ino_numbers, inr, is_some, judged_there, map, map-append, option_map, rights_of, start_from, subst, sym, with_write, written_files, written_in, written_ino, written_numbers, ℕ}
use Rattle.trio_layout.specs.JudgedFiles.{judged_files}
use Rattle.trio_edit_laws.specs.session.Listed.{JudgedAfterHold, JudgedAfterWrite, WasRead}
use Rattle.trio_laws.proofs.session.LentFiles.{lent_file}
use Rattle.trio_laws.proofs.session.Stands as stands
use Rattle.trio_laws.proofs.session.Stands.{Read}
use Rattle.trio_laws.proofs.session.TakenWrite as write

-- a file that isn't written is judged whatever the rows say
pub judged_any : (desk : DeskSeen) (h : InHand) (rows rows' : List (Option Row)) (x : Met) → (In x.ino (written_numbers (case_as_stands desk h)) → ⊥)
    → In x (judged_files (case_in_hand desk rows h)) → In x (judged_files (case_in_hand desk rows' h))
judged_any desk h rows rows' x out i =
    let b : Bundle = bundle_of h.parcel in
    let lent : List Held = map held_by h.parcel.holds in
    let share = stands.share desk.sizes desk.creds rows rows' b lent in
    elim (In-cases x (written_files (case_in_hand desk rows h)) share.rest (subst (λ l. In x l) share.old i)) [
      | inr later ↦ subst (λ l. In x l) (sym share.new) (In-right x (written_files (case_in_hand desk rows' h)) share.rest later)
      | inl start ↦
          let w = start_from (case_in_hand desk rows h) x start in
          absurd (out (subst (λ n. In n (written_numbers (case_as_stands desk h))) (sym (ap (λ (y : Met). y.ino) w.2 ∙ written_ino (case_in_hand desk rows h) w.0)) (In-map (λ (y : Written). y.ino) w.0 b.writes w.1)))
    ]

-- no file of an allotted number is written
pub not_written : (desk : DeskSeen) (h : InHand) (nodes : Nodes) (rows : List (Option Row)) (n : ℕ) → IsInOrder desk h → ArePossible desk h.parcel h.back nodes rows → In n (ino_numbers h.parcel.inodes)
    → In n (written_numbers (case_as_stands desk h)) → ⊥
not_written desk h nodes rows n o possible new i =
    let a : IsAmong (case_in_hand desk rows h) nodes = o.among nodes rows possible in
    false≢true (ap is_some (sym (a.new n new)) ∙ a.written n i)

-- a judged file is one whatever the rows say, and reads the same
pub was_read : (desk : DeskSeen) (h : InHand) (rows : List (Option Row)) (x : Met) (n : ℕ) (file : FileRead) → In x (judged_files (case_in_hand desk rows h)) → x.ino ≡ n
    → file_within (bundle_core (case_in_hand desk rows h)) x ≡ Ok file → WasRead desk h n file
was_read desk h rows x n file i number reads =
    let y = judged_there desk.sizes desk.creds [] rows (bundle_of h.parcel) (map held_by h.parcel.holds) x i in
    record { met = y.0; judged = y.1; number = ap (λ (z : Read). z.ino) y.2 ∙ number; reads = ap (λ (z : Read). z.reads) y.2 ∙ reads }

-- ---- a write lease

module _ (desk : DeskSeen) (h : InHand) (f : LentFile) (nodes nodes' : Nodes) (rows : List (Option Row)) (u : IsUntouched desk h f) (v : IsView desk h (with_write h f) nodes nodes' rows) where
  abbrev lent : List Held
  lent = map held_by h.parcel.holds

  abbrev then' : InHand
  then' = with_write h f

  abbrev with_more : Bundle
  with_more = record (bundle_of h.parcel) { writes = (bundle_of h.parcel).writes ++ written_in f.lent ∷ [] }

  order' : IsInOrder desk (with_write h f)
  order' = (write.takes_write desk h f v.order u).order

  to_more : (x : Met) → In x (judged_files (case_in_hand desk rows then')) → In x (judged_files (case_with desk.sizes desk.creds rows with_more lent))
  to_more x i = subst (λ b. In x (judged_files (case_with desk.sizes desk.creds rows b lent))) (write.bundle_is desk h f v.order u) i

  from_more : (x : Met) → In x (judged_files (case_with desk.sizes desk.creds rows with_more lent)) → In x (judged_files (case_in_hand desk rows then'))
  from_more x i = subst (λ b. In x (judged_files (case_with desk.sizes desk.creds rows b lent))) (sym (write.bundle_is desk h f v.order u)) i

  apart_then : (n : ℕ) → In n (ino_numbers h.parcel.inodes) → In n (written_numbers (case_as_stands desk then')) → ⊥
  apart_then n new i = not_written desk then' nodes rows n order' v.shows.possible new i

  apart_before : (n : ℕ) → In n (ino_numbers h.parcel.inodes) → In n (written_numbers (case_as_stands desk h)) → ⊥
  apart_before n new i = not_written desk h nodes rows n v.order (v.more nodes rows v.shows.possible) new i

  after_write : JudgesSame desk h (with_write h f) nodes
  after_write = record {
    stays = λ x new i.
        judged_any desk then' rows [] x (apart_then x.ino new)
        (from_more x (write.judged_to desk h f v.order u nodes nodes' rows v.shows x (judged_any desk h [] rows x (apart_before x.ino new) i)));
    made = λ x new i.
        elim (write.judged_from desk h f v.order u nodes nodes' rows v.shows x (to_more x (judged_any desk then' [] rows x (apart_then x.ino new) i))) [
          | inr old ↦ (judged_any desk h rows [] x (apart_before x.ino new) old, new)
          | inl taken ↦
              let number : x.ino ≡ f.lent.ino = ap (λ (y : Met). y.ino) taken ∙ written_ino (case_with desk.sizes desk.creds rows with_more lent) (written_in f.lent) in
              absurd (apart_then x.ino new (subst (λ (b : Bundle). In x.ino (map (λ (w : Written). w.ino) b.writes)) (sym (write.bundle_is desk h f v.order u))
              (subst (λ l. In x.ino l) (sym (map-append (λ (w : Written). w.ino) (bundle_of h.parcel).writes (written_in f.lent ∷ [])))
              (In-right x.ino (map (λ (w : Written). w.ino) (bundle_of h.parcel).writes) (f.lent.ino ∷ []) (inl number)))))
        ];
    read = λ x file i reads.
        let y = judged_there desk.sizes desk.creds rows [] (bundle_of then'.parcel) lent x i in
        let number : y.0.ino ≡ x.ino = ap (λ (z : Read). z.ino) y.2 in
        let now : file_within (bundle_core (case_with desk.sizes desk.creds rows with_more lent)) y.0 ≡ Ok file =
        subst (λ b. file_within (bundle_core (case_with desk.sizes desk.creds rows b lent)) y.0 ≡ Ok file) (write.bundle_is desk h f v.order u) (ap (λ (z : Read). z.reads) y.2 ∙ reads) in
        elim (write.judged_from desk h f v.order u nodes nodes' rows v.shows y.0 (to_more y.0 y.1)) [
          | inr old ↦ inl (was_read desk h rows y.0 x.ino file old number (sym (write.old_reads desk h f v.order u nodes nodes' rows v.shows y.0 old) ∙ now))
          | inl taken ↦
              let own : FileRead = lent_file desk.sizes f.lent u.well in
              let same : Ok file ≡ Ok own = sym now ∙ ap (file_within (bundle_core (case_with desk.sizes desk.creds rows with_more lent))) taken ∙ write.reads desk h f v.order u nodes nodes' rows v.shows in
              let is : file ≡ own = cc same in
              inr (λ l j.
              let q = write.listed_node desk h f v.order u nodes nodes' rows v.shows l (subst (λ (z : FileRead). In l z.entries) is j) in
              ap (option_map rights_of) q.1 ∙ ap Some q.4)
        ];
  }

pub judged_after_write : JudgedAfterWrite
judged_after_write desk h f nodes nodes' rows u v = after_write desk h f nodes nodes' rows u v

-- ---- a hold

pub judged_after_hold : JudgedAfterHold
unfolding judged_files
judged_after_hold desk h k nodes = search arith
