-- A file whose pages were written, and then its body, where it stands: with its lease, or in the slot of a file that was made.
use Rattle.trio_edit_laws.proofs.Words.{◌*◌, ◌+◌, ◌<◌, ◌∙◌, ◌≡◌, ◌⊎◌, DeskSeen, In, List, MadeFile, MayEdit, None, Option, Parcel, SessionSeen, Some, ap, arith, home_in, inl, inr, length, length-with_part, made_file, map, option_map_or, page_in, page_in-with_body, page_in-with_page_else, page_in-with_page_same, refl, subst, sym, with_body_at, with_body_in, with_part, with_part_in, written_with, ℕ}
use Rattle.trio_session.specs.Layout.{Home, InSlot, Leased, with_body}
use Rattle.trio_edit_laws.proofs.Keeps.{IsSlotPage, bodied_files, made_at, slot_held}
use Rattle.trio_edit_laws.proofs.Pages.{length-page_in}
use Rattle.trio_edit_laws.proofs.Touches.{Alters, Touches, alters_bodied, alters_more, bare_files, touches_page, touches_then}

-- where the body of a file stands
abbrev home_of : Option MadeFile → ℕ → Home
home_of q ino = option_map_or (λ mf. InSlot mf.page mf.slot) q (Leased ino)

module _ (desk : DeskSeen) (s : SessionSeen) (ino : ℕ) (body : List ℕ) (touched : List ℕ) (written : Parcel) (m : MayEdit desk s) (t : Touches (λ n. In n touched) s.parcel written)
    (sized : length body ≡ 64) (apart : (mf : MadeFile) → made_file s ino ≡ Some mf → In mf.page touched → ⊥) where
  slot_whole_then : (mf : MadeFile) → made_file s ino ≡ Some mf → length (page_in written mf.page) ≡ 4096
  slot_whole_then mf found =
      length-page_in desk.out written mf.page (t.given desk.out m.all.given) (subst (λ l. In mf.page l) (sym t.pages) (slot_held desk s mf m (made_at s ino mf found).0))

  -- what that leaves of all that is in hand
  alters_at : (q : Option MadeFile) → made_file s ino ≡ q
      → Alters (λ n. In n touched ⊎ IsSlotPage q n) (bodied_files q ino body (bare_files s.parcel)) s.parcel (with_body_at (home_of q ino) body written)
  alters_at None none =
      alters_more (λ n. In n touched) (λ n. In n touched ⊎ IsSlotPage None n) (map (written_with ino body) (bare_files s.parcel)) s.parcel (with_body ino body written) (λ n i. inl i)
      (alters_bodied (λ n. In n touched) ino body s.parcel written t)
  alters_at (Some mf) found =
      let P : ℕ → Type 0 = λ n. In n touched ⊎ IsSlotPage (Some mf) n in
      let low : mf.slot < 16 = (m.made.slots mf (made_at s ino mf found).0).slot in
      let whole = slot_whole_then mf found in
      let long : length (with_part (256 * mf.slot + 192) body (page_in written mf.page)) ≡ 4096 =
      length-with_part (256 * mf.slot + 192) body (page_in written mf.page) (omega (arith, low, whole, sized)) ∙ whole in
      touches_then P s.parcel written (with_part_in mf.page (256 * mf.slot + 192) body written)
      (alters_more (λ n. In n touched) P (bare_files s.parcel) s.parcel written (λ n i. inl i) t)
      (touches_page P mf.page (with_part (256 * mf.slot + 192) body (page_in written mf.page)) written (inr refl) long)

  pub alters_home : Alters (λ n. In n touched ⊎ IsSlotPage (made_file s ino) n) (bodied_files (made_file s ino) ino body (bare_files s.parcel)) s.parcel (with_body_at (home_in s ino) body written)
  alters_home = alters_at (made_file s ino) refl

  -- a page that isn't that slot's is as it was written
  pub page_bodied : (n : ℕ) → ((mf : MadeFile) → made_file s ino ≡ Some mf → n ≡ mf.page → ⊥) → page_in (with_body_at (home_in s ino) body written) n ≡ page_in written n
  page_bodied n none = search (arith, page_in-with_body, page_in-with_page_else)

  -- and the slot has the body
  pub slot_bodied : (mf : MadeFile) → made_file s ino ≡ Some mf → page_in (with_body_at (home_in s ino) body written) mf.page ≡ with_body_in mf.slot body (page_in s.parcel mf.page)
  slot_bodied mf found =
      ap (λ q. page_in (with_body_at (home_of q ino) body written) mf.page) found
      ∙ page_in-with_page_same mf.page (with_part (256 * mf.slot + 192) body (page_in written mf.page)) written (subst (λ l. In mf.page l) (sym t.pages) (slot_held desk s mf m (made_at s ino mf found).0))
      ∙ ap (with_part (256 * mf.slot + 192) body) (t.other mf.page (apart mf found))
