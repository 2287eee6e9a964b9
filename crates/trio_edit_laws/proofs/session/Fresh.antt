-- What a desk gives is none of what is in hand.
use Rattle.trio_edit_laws.proofs.Words.{◌++◌, ◌∙◌, ◌≡◌, DeskSeen, FreshParts, HoldParts, In, In-cases, In-flat, In-left, In-map, In-right, InHand, LentFile, LentPage, List, Sheet, Shown, WasGiven, Written, ap, are_new-fewer, arith, file_numbers, files_out, flat_map, flat_map-In, fresh_sheet, hold_numbers, inl, inr, lent_numbers, lent_sheet, map, map-In, map-append, map-map, numbers_of_file, pages_in_hand, pages_out, subst, sym, written_in, ℕ}
use Rattle.trio_page.specs.declared.page.PageNo.{PageNo}
use Rattle.trio_edit_laws.specs.session.Fresh.{FreshIsFree, FreshIsNew, FreshIsUntouched}

-- a file's pages have the numbers that were lent
same_numbers : (xs ys : List LentPage) → map (λ (p : LentPage). p.no) xs ≡ map (λ (p : LentPage). p.no) ys → lent_numbers xs ≡ lent_numbers ys
same_numbers xs ys e =
    let number : PageNo → ℕ = λ n. n.0 in
    sym (map-map number (λ (p : LentPage). p.no) xs) ∙ ap (map number) e ∙ map-map number (λ (p : LentPage). p.no) ys

sheet_number : (pages : List LentPage) → map (λ (x : Sheet). x.page) (map lent_sheet pages) ≡ lent_numbers pages
sheet_number pages = map-map (λ (x : Sheet). x.page) lent_sheet pages

module _ (desk : DeskSeen) (h : InHand) (given : WasGiven desk.out h.parcel) where
  file_out : (n : ℕ) → In n (file_numbers h.parcel.writes) → In n (files_out desk.out)
  file_out n i =
      let f = map-In (λ (f : LentFile). f.stands.ino) n h.parcel.writes i in
      let l = given.writes f.0 f.1 in
      search (arith, In-left, In-map)

  hold_out : (n : ℕ) → In n (hold_numbers h.parcel.holds) → In n (files_out desk.out)
  hold_out n i =
      let k = map-In (λ (k : HoldParts). k.ino) n h.parcel.holds i in
      In-right n (map (λ (w : Shown). w.ino) desk.out.writes ++ map (λ (r : Shown). r.ino) desk.out.reads) (hold_numbers desk.out.holds)
      (subst (λ m. In m (hold_numbers desk.out.holds)) (sym k.2) (In-map (λ (k : HoldParts). k.ino) k.0 desk.out.holds (given.holds k.0 k.1)))

  pub page_out : (n : ℕ) → In n (pages_in_hand h) → In n (pages_out desk.out)
  page_out n i =
      let sheets : List Sheet = flat_map (λ (w : Written). w.index ++ w.blocks) (map (λ (x : LentFile). written_in x.stands) h.parcel.writes) in
      let j : In n (map (λ (x : Sheet). x.page) sheets ++ map (λ (x : Sheet). x.page) (map fresh_sheet h.parcel.pages)) =
      subst (λ l. In n l) (map-append (λ (x : Sheet). x.page) sheets (map fresh_sheet h.parcel.pages)) i in
      elim (In-cases n (map (λ (x : Sheet). x.page) sheets) (map (λ (x : Sheet). x.page) (map fresh_sheet h.parcel.pages)) j) [
        | inl lent ↦
            let x = map-In (λ (x : Sheet). x.page) n sheets lent in
            let w = flat_map-In (λ (w : Written). w.index ++ w.blocks) x.0 (map (λ (x : LentFile). written_in x.stands) h.parcel.writes) x.1 in
            let f = map-In (λ (x : LentFile). written_in x.stands) w.0 h.parcel.writes w.1 in
            let l = given.writes f.0 f.1 in
            let own : In x.0 (map lent_sheet f.0.stands.index ++ map lent_sheet f.0.stands.blocks) = subst (λ (z : Written). In x.0 (z.index ++ z.blocks)) f.2 w.2 in
            let here : In n (map (λ (y : Sheet). y.page) (map lent_sheet f.0.stands.index ++ map lent_sheet f.0.stands.blocks)) =
            subst (λ k. In k (map (λ (y : Sheet). y.page) (map lent_sheet f.0.stands.index ++ map lent_sheet f.0.stands.blocks))) (sym x.2) (In-map (λ (y : Sheet). y.page) x.0 (map lent_sheet f.0.stands.index ++ map lent_sheet f.0.stands.blocks) own) in
            let same : map (λ (y : Sheet). y.page) (map lent_sheet f.0.stands.index ++ map lent_sheet f.0.stands.blocks) ≡ numbers_of_file f.0.lent = search (arith, map-append, sheet_number, same_numbers) in
            In-left n (flat_map numbers_of_file desk.out.writes) desk.out.pages
            (In-flat numbers_of_file f.0.lent n desk.out.writes l.lent (subst (λ l. In n l) same here))
        | inr fresh ↦
            let p = map-In (λ (p : FreshParts). p.no.0) n h.parcel.pages (subst (λ l. In n l) (map-map (λ (x : Sheet). x.page) fresh_sheet h.parcel.pages) fresh) in
            In-right n (flat_map numbers_of_file desk.out.writes) desk.out.pages (subst (λ k. In k desk.out.pages) (sym p.2) (given.pages p.0 p.1).given)
      ]

pub fresh_is_untouched : FreshIsUntouched
fresh_is_untouched desk h ino f given fresh = record {
  as_lent = fresh.is.as_lent;
  well = fresh.is.well;
  unwritten = λ i. fresh.new (subst (λ n. In n (files_out desk.out)) fresh.is.ino (file_out desk h given f.lent.ino i));
  unheld = λ i. fresh.new (subst (λ n. In n (files_out desk.out)) fresh.is.ino (hold_out desk h given f.lent.ino i));
  apart = λ n i j. fresh.is.apart n i (page_out desk h given n j);
}

pub fresh_is_free : FreshIsFree
fresh_is_free desk h ino k given fresh = (
  λ i. fresh.new (subst (λ n. In n (files_out desk.out)) fresh.is.1 (hold_out desk h given k.ino i)),
  λ i. fresh.new (subst (λ n. In n (files_out desk.out)) fresh.is.1 (file_out desk h given k.ino i)),
)

pub fresh_is_new : FreshIsNew
fresh_is_new desk h given was fresh = are_new-fewer (pages_in_hand h) (pages_out desk.out) _ (page_out desk h was) fresh.pages
