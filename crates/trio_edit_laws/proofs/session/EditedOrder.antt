-- What is in hand stays in order where bodies and bytes alone are exchanged: its files, holds and numbers are those that it had.
use Rattle.trio_edit_laws.proofs.Words.{◌∙◌, ◌≡◌, ArePossible, Bundle, Case, DeskSeen, In, InHand, IsAmong, IsInOrder, LentFile, List, Nodes, Option, Row, Written, [], ap, are_new, arith, bundle_of, case_in_hand, case_with, hand_files_once, held_by, lent_files, map, map-map, pages_in_hand, possible_with_less, subst, sym, written_in}

-- the bundle then, by the holds and the numbers of before
abbrev pub bundle_then : InHand → InHand → Bundle
bundle_then h h' = record { writes = (bundle_of h'.parcel).writes; holds = (bundle_of h.parcel).holds; pages = (bundle_of h'.parcel).pages; numbers = (bundle_of h.parcel).numbers }

module _ (desk : DeskSeen) (h h' : InHand) (holds : h'.parcel.holds ≡ h.parcel.holds) (inodes : h'.parcel.inodes ≡ h.parcel.inodes) where
  pub case_is : (rows : List (Option Row)) → case_in_hand desk rows h' ≡ case_with desk.sizes desk.creds rows (bundle_then h h') (map held_by h.parcel.holds)
  case_is rows = search arith

  module _ (lent : lent_files h'.parcel.writes ≡ lent_files h.parcel.writes) (back : h'.back ≡ h.back) where
    -- what is possible then was possible
    pub possible_before : (nodes : Nodes) (rows : List (Option Row)) → ArePossible desk h'.parcel h'.back nodes rows → ArePossible desk h.parcel h.back nodes rows
    possible_before = search (arith, possible_with_less)

    pub order_stays :
        map (λ (w : Written). w.ino) (bundle_of h'.parcel).writes ≡ map (λ (w : Written). w.ino) (bundle_of h.parcel).writes
        → pages_in_hand h' ≡ pages_in_hand h → IsInOrder desk h → IsInOrder desk h'
    order_stays numbers pages o = record {
      among = λ nodes rows possible.
          let a : IsAmong (case_in_hand desk rows h) nodes = o.among nodes rows (possible_before nodes rows possible) in
          let then : IsAmong (case_with desk.sizes desk.creds rows (bundle_then h h') (map held_by h.parcel.holds)) nodes =
          record {
            same = a.same;
            written = λ n i. a.written n (subst (λ l. In n l) numbers i);
            held = a.held;
            apart = λ n i j. a.apart n i (subst (λ l. In n l) numbers j);
            closed = λ n r i e. subst (λ l. In r.parent l) (sym numbers) (a.closed n r i e);
            new = a.new;
          } in
          subst (λ (x : Case). IsAmong x nodes) (sym (case_is rows)) then;
      pages = ap (are_new []) pages ∙ o.pages;
      files =
          ap (are_new []) (sym (map-map (λ (x : Written). x.ino) (λ (x : LentFile). written_in x.stands) h'.parcel.writes) ∙ numbers) ∙ hand_files_once desk h o;
    }
