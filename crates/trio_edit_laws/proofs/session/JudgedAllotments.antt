-- Which files are judged after an allotment, and what they read.
use Rattle.trio_edit_laws.proofs.Words.{◌++◌, ◌∙◌, ◌≡◌, Allotted, DeskSeen, Held, In, In-cases, In-left, InHand, InoParts, IsInOrder, IsView, JudgesSame, List, Met, Nodes, Ok, Option, Row, [], ap, are_new, bundle_core, bundle_of, case_as_stands, case_in_hand, case_with, file_within, held_by, inl, ino_numbers, inr, judged_files, judged_there, map, map-append, page_numbers, pages_in_hand, subst, sym, true, with_allotment, written_numbers, ℕ}
use Rattle.trio_edit_laws.specs.session.Listed.{JudgedAfterAllotment}
use Rattle.trio_edit_laws.proofs.session.JudgedTakings.{judged_any, not_written, was_read}
use Rattle.trio_laws.proofs.session.Stands.{Read}
use Rattle.trio_laws.proofs.session.TakenHold.{judged_listed}
use Rattle.trio_laws.proofs.session.TakenMore as more

module _ (desk : DeskSeen) (h : InHand) (given : Allotted) (nodes nodes' : Nodes) (rows : List (Option Row)) (new : are_new (pages_in_hand h) (page_numbers given.pages.items) ≡ true) (v : IsView desk h (with_allotment h given) nodes nodes' rows) where
  abbrev lent : List Held
  lent = map held_by h.parcel.holds

  abbrev then' : InHand
  then' = with_allotment h given

  order' : IsInOrder desk (with_allotment h given)
  order' = (more.takes_allotment desk h given v.order new).order

  -- the same files are judged
  same_judged : judged_files (case_in_hand desk rows (with_allotment h given)) ≡ judged_files (case_in_hand desk rows h)
  same_judged =
      ap (λ b. judged_files (case_with desk.sizes desk.creds rows b lent)) (more.bundle_is desk h given v.order new)
      ∙ more.judged_same desk h given v.order new nodes nodes' rows v.shows

  numbers_are : ino_numbers (with_allotment h given).parcel.inodes ≡ ino_numbers h.parcel.inodes ++ ino_numbers given.inodes.items
  numbers_are = map-append (λ (n : InoParts). n.no) h.parcel.inodes given.inodes.items

  apart_then : (n : ℕ) → In n (ino_numbers then'.parcel.inodes) → In n (written_numbers (case_as_stands desk h)) → ⊥
  apart_then n i j = not_written desk then' nodes rows n order' v.shows.possible i j

  -- a file that is judged with a number of the allotment has one that was allotted before
  old_number : (x : Met) → In x.ino (ino_numbers then'.parcel.inodes) → In x (judged_files (case_in_hand desk rows h)) → In x.ino (ino_numbers h.parcel.inodes)
  old_number x i j =
      elim (In-cases x.ino (ino_numbers h.parcel.inodes) (ino_numbers given.inodes.items) (subst (λ l. In x.ino l) numbers_are i)) [
        | inl before ↦ before
        | inr now ↦ elim (judged_listed (case_in_hand desk rows h) x j) [
          | inl written ↦ absurd (apart_then x.ino i written)
          | inr entry ↦ more.unlisted desk h given v.order new nodes nodes' rows v.shows x entry now
        ]
      ]

  after_allotment : JudgesSame desk h (with_allotment h given) nodes
  after_allotment = record {
    stays = λ x i j.
        let k : In x.ino (ino_numbers then'.parcel.inodes) = subst (λ l. In x.ino l) (sym numbers_are) (In-left x.ino (ino_numbers h.parcel.inodes) (ino_numbers given.inodes.items) i) in
        judged_any desk then' rows [] x (apart_then x.ino k) (subst (λ l. In x l) (sym same_judged) (judged_any desk h [] rows x (apart_then x.ino k) j));
    made = λ x i j.
        let k : In x (judged_files (case_in_hand desk rows h)) = subst (λ l. In x l) same_judged (judged_any desk then' [] rows x (apart_then x.ino i) j) in
        (judged_any desk h rows [] x (apart_then x.ino i) k, old_number x i k);
    read = λ x file i reads.
        let y = judged_there desk.sizes desk.creds rows [] (bundle_of then'.parcel) lent x i in
        let old : In y.0 (judged_files (case_in_hand desk rows h)) = subst (λ l. In y.0 l) same_judged y.1 in
        let now : file_within (bundle_core (case_in_hand desk rows then')) y.0 ≡ Ok file = ap (λ (z : Read). z.reads) y.2 ∙ reads in
        inl (was_read desk h rows y.0 x.ino file old (ap (λ (z : Read). z.ino) y.2)
        (sym (more.old_reads desk h given v.order new nodes nodes' rows v.shows y.0 old)
        ∙ subst (λ b. file_within (bundle_core (case_with desk.sizes desk.creds rows b lent)) y.0 ≡ Ok file) (more.bundle_is desk h given v.order new) now));
  }

pub judged_after_allotment : JudgedAfterAllotment
judged_after_allotment desk h given nodes nodes' rows new v = after_allotment desk h given nodes nodes' rows new v
