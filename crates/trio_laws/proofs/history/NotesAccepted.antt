-- What is noted of live files after an accepted release is what its files tell.
use Rattle.trio_laws.proofs.Words.{◌&&◌, ◌+◌, ◌<◌, ◌∙◌, ◌≡◌, Bool, Bundle, GivenTo, Image, IsFit, Kept, Met, None, Notes, Option, RawFile, Row, Some, State, Verifies, [], ap, arith, both_ways, bundle_handed, bytes_eq, bytes_eq-Decides, cases_lt, cond, creds_of, ext_get_or, false, inl, inr, is_accepted, is_among, is_told, is_written, length, met_numbered, name_by, name_of, next, not, not-false, note_of, notes_after, notes_of, option_map, or_parts, plain, raw_file, raw_files, read_met, refl, root_is_met, root_of, row_at, row_at_is, row_by, row_met, settled, slot_bytes, sym, told_by, told_file, true, ℕ}
use Rattle.std.proofs.Common.{is_some}
use Rattle.trio_laws.specs.history.ToldLaws.{ReleaseNotes}
use Rattle.trio_laws.proofs.history.AcceptedFiles.{fitJ, verifiesJ, Now, now, kept_follows, FileIs, Stayed, Wrote, New, file_is, unheld_now}
use Rattle.trio_laws.proofs.history.Follows.{Follows, size_follows, guard_follows}
use Rattle.trio_laws.proofs.history.Listing.{met_at, tables_of, listing, name_listed, slot_named}
use Rattle.trio_laws.proofs.history.NotesFacts.{after_long, comes, noted, noted_at, noted_row, notes_in, notes_long, notes_out}
use Rattle.trio_laws.proofs.history.RawParts.{raw_number}

-- no row has a number but those from 1 on
no_row : (image : Image) → IsFit image.core → Verifies image → (n : ℕ) → n < 1 → row_at image n ≡ None
no_row image fit v n low = by (row_at image n) refl
  where
    by : (o : Option Row) → row_at image n ≡ o → o ≡ None
    by None row = refl
    by (Some r) row =
        let m = met_at image fit v n r row in
        let a = (met_numbered image.core plain fit v.sound m.met m.stands).0 in
        let d = m.number in
        absurd (omega (arith, low, a, d))

-- the root is live
root_live : (image : Image) → IsFit image.core → Verifies image → row_at image 1 ≡ None → ⊥
root_live image fit v dead =
    let root = root_is_met image.core plain fit v.sound in
    let f = read_met image.core plain fit v.sound (root_of image.core) root in
    let there : row_at image 1 ≡ Some (row_by (root_of image.core) f.0.body) = row_at_is image.core plain fit v.sound image (tables_of image fit v) 1 ∙ row_met image.core plain fit v.sound (root_of image.core) f.0 root f.1 in
    let wrong : None ≡ Some (row_by (root_of image.core) f.0.body) = sym dead ∙ there in absurd (cc wrong)

-- a listed name isn't empty
listed_named : (image : Image) (fit : IsFit image.core) (v : Verifies image) (n : ℕ) (r : Row) → row_at image n ≡ Some r → (n ≡ 1 → ⊥) → name_of image n r ≡ [] → ⊥
listed_named image fit v n r row other none =
    let l = listing image fit v n r row other in
    slot_named image.core.inodes (slot_bytes r.slot l.bytes) l.entry.entry l.says (sym (name_listed image fit v n r l other) ∙ none)

module _ (s : State) (k : Kept s) (lib : ℕ) (b : Bundle) (given : GivenTo s lib b) (accepted : is_accepted (settled s) (creds_of s lib) b ≡ true) where
  abbrev image : Image
  image = settled s

  abbrev after : Image
  after = next image b

  abbrev at_now : (n : ℕ) (r : Row) → row_at after n ≡ Some r → Now s k lib (creds_of s lib) b given accepted n r
  at_now n r row = now s k lib (creds_of s lib) b given accepted n r row

  abbrev Is : Met → Type 0
  Is m = FileIs s k lib (creds_of s lib) b given accepted m

  fit' : IsFit after.core
  fit' = fitJ s k lib (creds_of s lib) b given accepted

  verifies' : Verifies after
  verifies' = verifiesJ s k lib (creds_of s lib) b given accepted

  -- ---- what isn't told

  not_told : (n : ℕ) → is_told image after b n ≡ false → (is_written b n ≡ false) × (is_among n b.holds ≡ false) × ((is_some (row_at after n) && not (bytes_eq (name_by image n (row_at image n)) (name_by after n (row_at after n)))) ≡ false)
  not_told n t = search (arith, or_parts)

  same_name : (n : ℕ) (r : Row) (o : Option Row) → row_at after n ≡ Some r → row_at image n ≡ o → is_told image after b n ≡ false → name_by image n o ≡ name_of after n r
  same_name n r o row was t = search (arith, not_told, bytes_eq-Decides, not-false)

  untold_by : (n : ℕ) (r : Row) (row : row_at after n ≡ Some r) → is_told image after b n ≡ false → Is (at_now n r row).met → noted after n ≡ noted image n
  untold_by n r row t (Wrote wr unheld own) =
      absurd (both_ways (is_written b n) (not_told n t).0 (ap (is_written b) (sym (at_now n r row).number) ∙ wr))
  untold_by n r row t (New dead owner own) =
      let dead' : row_at image n ≡ None = ap (row_at image) (sym (at_now n r row).number) ∙ dead in
      let other : n ≡ 1 → ⊥ = λ one. root_live image k.fit k.verifies (ap (row_at image) (sym one) ∙ dead') in
      absurd (listed_named after fit' verifies' n r row other (sym (same_name n r None row dead' t)))
  untold_by n r row t (Stayed q row_q kind body un) =
      let w = at_now n r row in
      let row_s : row_at image n ≡ Some q = ap (row_at image) (sym w.number) ∙ row_q in
      let keeps : row_at after n ≡ Some q = unheld_now s k lib (creds_of s lib) b given accepted n q row_s (not_told n t).1 in
      let f : Follows image after n q r = kept_follows s k lib (creds_of s lib) b given accepted n q r row_s row (q, row_q, kind, body, un) in
      noted_row image after n q r row_s row
      (sym (same_name n r (Some q) row row_s t))
      (size_follows image after k.fit fit' k.verifies verifies' n q r row_s row f)
      (guard_follows image after k.fit fit' k.verifies verifies' n q r row_s row f)

  -- ---- each number

  gone_case : (n : ℕ) (o : Option Row) → row_at after n ≡ None → row_at image n ≡ o → (t : Bool) → is_told image after b n ≡ t → None ≡ comes (cond t (told_by image after b n o None) None) (option_map (note_of image n) o)
  gone_case n None gone was true t = refl
  gone_case n None gone was false t = refl
  gone_case n (Some q) gone was true t = refl
  gone_case n (Some q) gone was false t =
      let keeps = unheld_now s k lib (creds_of s lib) b given accepted n q was (not_told n t).1 in
      let wrong : None ≡ Some q = sym gone ∙ keeps in absurd (cc wrong)

  told_now : (n : ℕ) (o : Option Row) (r : Row) → told_by image after b n o (Some r) ≡ Some (told_file after b n false r)
  told_now n None r = refl
  told_now n (Some q) r = refl

  there_case : (n : ℕ) (r : Row) → row_at after n ≡ Some r → (t : Bool) → is_told image after b n ≡ t → noted after n ≡ comes (cond t (told_by image after b n (row_at image n) (Some r)) None) (noted image n)
  there_case n r row true t = search (arith, told_now, untold_by, file_is)
  there_case n r row false t = untold_by n r row t (file_is s k lib (creds_of s lib) b given accepted (at_now n r row).met (at_now n r row).stands)

  note_case : (n : ℕ) (o : Option Row) → row_at after n ≡ o → noted after n ≡ comes (cond (is_told image after b n) (told_by image after b n (row_at image n) o) None) (noted image n)
  note_case n None row = ap (option_map (note_of after n)) row ∙ gone_case n (row_at image n) row refl (is_told image after b n) refl
  note_case n (Some r) row = there_case n r row (is_told image after b n) refl

  one : (n : ℕ) → noted after n ≡ comes (raw_file image after b n) (noted image n)
  one n = note_case n (row_at after n) refl

  none_first : (n : ℕ) → n < 1 → noted after n ≡ noted image n
  none_first n low = search (arith, no_row, fit', verifies')

  pub accepted_notes : notes_of after ≡ notes_after (raw_files image after b) (notes_of image)
  accepted_notes =
      let count : ℕ = s.home.core.inodes in
      let old : Notes = notes_of image in
      let rf : ℕ → Option RawFile = raw_file image after b in
      let long : length old ≡ count + 1 = notes_long image in
      let long' : length (notes_of after) ≡ count + 1 = notes_long after in
      let told : length (notes_after (raw_files image after b) old) ≡ length old = after_long (raw_files image after b) old in
      ext_get_or None (notes_of after) (notes_after (raw_files image after b) old) (omega (arith, long, long', told))
      (λ n l.
      let inside : n < count + 1 = omega (arith, l, long') in
      elim (cases_lt n 1) [
        | inl low ↦
            noted_at after n inside ∙ none_first n low ∙ sym (noted_at image n inside)
            ∙ sym (notes_out rf (raw_number image after b) count 1 n (inl low) old)
        | inr high ↦
            noted_at after n inside ∙ one n ∙ ap (comes (rf n)) (sym (noted_at image n inside))
            ∙ sym (notes_in rf (raw_number image after b) count 1 n high (omega (arith, inside)) old (omega (arith, inside, long)))
      ])

pub release_notes : ReleaseNotes
release_notes s lib h j accepted = accepted_notes s j.kept lib (bundle_handed h) j.given accepted
