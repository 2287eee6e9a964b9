-- Writes of pages in either order: of different pages, and of different parts of one.
use Rattle.trio_edit_laws.proofs.Words.{if◌then◌else◌, ◌++◌, ◌+◌, ◌∙◌, ◌≡◌, ◌≤◌, In, LentFile, List, Parcel, [], ap, append_assoc, arith, bundle_of, bundle_pages, cases_eq, drop, drop-drop, eqb, if_other, if_same, inl, inr, length, length-append, length-take-le, map, map-map, map_alike, page_in, page_in-with_page_else, page_in-with_page_same, refl, sym, take, with_page, with_part, ℕ, true, take-append-le, take-append-drop, EntryPart, entry_bytes, with_number, w64, ◌*◌}
use Rattle.std.proofs.Math.Seq.{drop-append-add, take-append_seam}
use Rattle.trio_lease.specs.declared.parts.FreshParts.{FreshParts}
use Rattle.trio_lease.specs.declared.parts.LentPage.{LentPage}
use Rattle.trio_page.specs.Field.{with_part}
use Rattle.trio_session.specs.Layout.{block_with, file_with, filled, fresh_with, index_with, retitled, with_number_in, with_page, with_part_in}
use Rattle.trio_edit_laws.proofs.Parts.{with_part-behind}

-- ---- parts of one page

-- the bytes up to a part, and those behind it
take-with_part_before : (at : ℕ) (p xs : List ℕ) → at ≤ length xs → take at (with_part at p xs) ≡ take at xs
unfolding with_part
take-with_part_before at p xs l =
    let a : List ℕ = take at xs in
    let long : length a ≡ at = length-take-le at xs l in
    ap (λ n. take n (a ++ (p ++ drop (at + length p) xs))) (sym long) ∙ take-append_seam a (p ++ drop (at + length p) xs)

drop-with_part_behind : (at k : ℕ) (p r xs : List ℕ) → at ≤ length xs → k ≡ length p → drop (at + k) (take at xs ++ (p ++ r)) ≡ r
drop-with_part_behind at k p r xs l e =
    let a : List ℕ = take at xs in
    let long : length a ≡ at = length-take-le at xs l in
    let both : at + k ≡ length (a ++ p) + 0 = omega (arith, long, e, length-append a p) in
    ap (drop (at + k)) (sym (append_assoc a p r)) ∙ ap (λ n. drop n ((a ++ p) ++ r)) both ∙ drop-append-add (a ++ p) r 0

-- a part right before another
pub with_part-before : (at : ℕ) (p q xs : List ℕ) → at + length p ≤ length xs → with_part at p (with_part (at + length p) q xs) ≡ with_part at (p ++ q) xs
unfolding with_part
with_part-before at p q xs l =
    let k : ℕ = at + length p in
    let a : List ℕ = take (at + length p) xs in
    let r : List ℕ = drop ((at + length p) + length q) xs in
    let long : length a ≡ k = length-take-le k xs l in
    let within : at ≤ length a = omega (arith, long) in
    let front : take at (a ++ (q ++ r)) ≡ take at xs =
    take-append-le at a (q ++ r) within ∙ sym (take-append-le at a (drop k xs) within) ∙ ap (take at) (take-append-drop k xs) in
    let seam : at + length p ≡ length a + 0 = omega (arith, long) in
    let back : drop (at + length p) (a ++ (q ++ r)) ≡ q ++ r = ap (λ n. drop n (a ++ (q ++ r))) seam ∙ drop-append-add a (q ++ r) 0 in
    let sum : (at + length p) + length q ≡ at + length (p ++ q) = omega (arith, length-append p q) in
    ap (λ z. z ++ (p ++ drop (at + length p) (a ++ (q ++ r)))) front
    ∙ ap (λ z. take at xs ++ (p ++ z)) back
    ∙ ap (λ z. take at xs ++ z) (sym (append_assoc p q r))
    ∙ ap (λ n. take at xs ++ ((p ++ q) ++ drop n xs)) sum

-- a part over the front of another
pub with_part-over : (at : ℕ) (p' p q xs : List ℕ) → at ≤ length xs → length p' ≡ length p → with_part at p' (with_part at (p ++ q) xs) ≡ with_part at (p' ++ q) xs
unfolding with_part
with_part-over at p' p q xs l e =
    let r : List ℕ = drop (at + length (p ++ q)) xs in
    let front : take at (take at xs ++ ((p ++ q) ++ r)) ≡ take at xs = take-with_part_before at (p ++ q) xs l in
    let back : drop (at + length p') (take at xs ++ ((p ++ q) ++ r)) ≡ q ++ r =
    ap (λ z. drop (at + length p') (take at xs ++ z)) (append_assoc p q r) ∙ drop-with_part_behind at (length p') p (q ++ r) xs l e in
    let sum : at + length (p ++ q) ≡ at + length (p' ++ q) = omega (arith, e, length-append p q, length-append p' q) in
    ap (λ z. z ++ (p' ++ drop (at + length p') (take at xs ++ ((p ++ q) ++ r)))) front
    ∙ ap (λ z. take at xs ++ (p' ++ z)) back
    ∙ ap (λ z. take at xs ++ z) (sym (append_assoc p' q r))
    ∙ ap (λ n. take at xs ++ ((p' ++ q) ++ drop n xs)) sum

-- ---- what has a number and bytes

module _ {X : Type 0} (key : X → ℕ) (change : List ℕ → X → X) (keeps : (w : List ℕ) (x : X) → key (change w x) ≡ key x) where
  abbrev with_at : ℕ → List ℕ → X → X
  with_at n w x = if eqb (key x) n then change w x else x

  here : (n : ℕ) (w : List ℕ) (x : X) → key x ≡ n → with_at n w x ≡ change w x
  here n w x e = if_same (key x) n (change w x) x e

  other : (n : ℕ) (w : List ℕ) (x : X) → (key x ≡ n → ⊥) → with_at n w x ≡ x
  other n w x d = if_other (key x) n (change w x) x d

  pub swap_at : (n k : ℕ) (v w : List ℕ) (x : X) → (n ≡ k → ⊥) → with_at n v (with_at k w x) ≡ with_at k w (with_at n v x)
  swap_at n k v w x d = elim (cases_eq (key x) n) [
    | inl same ↦
        let apart : key x ≡ k → ⊥ = λ e. d (sym same ∙ e) in
        ap (with_at n v) (other k w x apart) ∙ here n v x same
        ∙ sym (ap (with_at k w) (here n v x same) ∙ other k w (change v x) (λ e. apart (sym (keeps v x) ∙ e)))
    | inr differ ↦ elim (cases_eq (key x) k) [
      | inl same ↦
          ap (with_at n v) (here k w x same) ∙ other n v (change w x) (λ e. differ (sym (keeps w x) ∙ e))
          ∙ sym (ap (with_at k w) (other n v x differ) ∙ here k w x same)
      | inr apart ↦
          ap (with_at n v) (other k w x apart) ∙ other n v x differ
          ∙ sym (ap (with_at k w) (other n v x differ) ∙ other k w x apart)
    ]
  ]

  pub again_at : ((v w : List ℕ) (x : X) → change v (change w x) ≡ change v x) → (n : ℕ) (v w : List ℕ) (x : X) → with_at n v (with_at n w x) ≡ with_at n v x
  again_at last n v w x = elim (cases_eq (key x) n) [
    | inl same ↦ ap (with_at n v) (here n w x same) ∙ here n v (change w x) (keeps w x ∙ same) ∙ last v w x ∙ sym (here n v x same)
    | inr differ ↦ ap (with_at n v) (other n w x differ)
  ]

-- ---- pages in hand

swap_index : (n k : ℕ) (v w : List ℕ) (p : LentPage) → (n ≡ k → ⊥) → index_with n v (index_with k w p) ≡ index_with k w (index_with n v p)
swap_index n k v w p d = swap_at (λ (p : LentPage). p.no.0) (λ l p. record p { page = l }) (λ l p. refl) n k v w p d

swap_block : (n k : ℕ) (v w : List ℕ) (p : LentPage) → (n ≡ k → ⊥) → block_with n v (block_with k w p) ≡ block_with k w (block_with n v p)
swap_block n k v w p d = swap_at (λ (p : LentPage). p.no.0) (λ l p. record p { page = l; touched = true }) (λ l p. refl) n k v w p d

swap_fresh : (n k : ℕ) (v w : List ℕ) (p : FreshParts) → (n ≡ k → ⊥) → fresh_with n v (fresh_with k w p) ≡ fresh_with k w (fresh_with n v p)
swap_fresh n k v w p d = swap_at (λ (p : FreshParts). p.no.0) (λ l p. record p { page = l }) (λ l p. refl) n k v w p d

swap_all : {X : Type 0} (f g : X → X) (xs : List X) → ((x : X) → f (g x) ≡ g (f x)) → map f (map g xs) ≡ map g (map f xs)
swap_all f g xs same = map-map f g xs ∙ map_alike (λ x. f (g x)) (λ x. g (f x)) xs same ∙ sym (map-map g f xs)

swap_file : (n k : ℕ) (v w : List ℕ) (f : LentFile) → (n ≡ k → ⊥) → file_with n v (file_with k w f) ≡ file_with k w (file_with n v f)
swap_file n k v w f d =
    ap (λ l. record f { stands = record f.stands { index = l; blocks = map (block_with n v) (map (block_with k w) f.stands.blocks) } }) (swap_all (index_with n v) (index_with k w) f.stands.index (λ p. swap_index n k v w p d))
    ∙ ap (λ l. record f { stands = record f.stands { index = map (index_with k w) (map (index_with n v) f.stands.index); blocks = l } }) (swap_all (block_with n v) (block_with k w) f.stands.blocks (λ p. swap_block n k v w p d))

pub swap_pages : (n k : ℕ) (v w : List ℕ) (b : Parcel) → (n ≡ k → ⊥) → with_page n v (with_page k w b) ≡ with_page k w (with_page n v b)
unfolding with_page
swap_pages n k v w b d =
    ap (λ l. record b { writes = l; pages = map (fresh_with n v) (map (fresh_with k w) b.pages) }) (swap_all (file_with n v) (file_with k w) b.writes (λ f. swap_file n k v w f d))
    ∙ ap (λ l. record b { writes = map (file_with k w) (map (file_with n v) b.writes); pages = l }) (swap_all (fresh_with n v) (fresh_with k w) b.pages (λ p. swap_fresh n k v w p d))

again_all : {X : Type 0} (f g h : X → X) (xs : List X) → ((x : X) → f (g x) ≡ h x) → map f (map g xs) ≡ map h xs
again_all f g h xs same = map-map f g xs ∙ map_alike (λ x. f (g x)) h xs same

again_file : (n : ℕ) (v w : List ℕ) (f : LentFile) → file_with n v (file_with n w f) ≡ file_with n v f
again_file n v w f =
    ap (λ l. record f { stands = record f.stands { index = l; blocks = map (block_with n v) (map (block_with n w) f.stands.blocks) } })
    (again_all (index_with n v) (index_with n w) (index_with n v) f.stands.index (λ p. again_at (λ (p : LentPage). p.no.0) (λ l p. record p { page = l }) (λ l p. refl) (λ a b p. refl) n v w p))
    ∙ ap (λ l. record f { stands = record f.stands { index = map (index_with n v) f.stands.index; blocks = l } })
    (again_all (block_with n v) (block_with n w) (block_with n v) f.stands.blocks (λ p. again_at (λ (p : LentPage). p.no.0) (λ l p. record p { page = l; touched = true }) (λ l p. refl) (λ a b p. refl) n v w p))

-- of two writes of one page the last one stands
pub again_page : (n : ℕ) (v w : List ℕ) (b : Parcel) → with_page n v (with_page n w b) ≡ with_page n v b
unfolding with_page
again_page n v w b =
    ap (λ l. record b { writes = l; pages = map (fresh_with n v) (map (fresh_with n w) b.pages) }) (again_all (file_with n v) (file_with n w) (file_with n v) b.writes (λ f. again_file n v w f))
    ∙ ap (λ l. record b { writes = map (file_with n v) b.writes; pages = l })
    (again_all (fresh_with n v) (fresh_with n w) (fresh_with n v) b.pages (λ p. again_at (λ (p : FreshParts). p.no.0) (λ l p. record p { page = l }) (λ l p. refl) (λ a b p. refl) n v w p))

-- ---- the entry of a slot, and writes of other pages

module _ (num slot : ℕ) (e : EntryPart) where
  pub page_beside : (k : ℕ) (w : List ℕ) (b : Parcel) → (num ≡ k → ⊥) → retitled num slot e (with_page k w b) ≡ with_page k w (retitled num slot e b)
  page_beside k w b d =
      ap (λ p. with_page num (with_part (256 * slot) (entry_bytes e) p) (with_page k w b)) (page_in-with_page_else k num w b d)
      ∙ swap_pages num k (with_part (256 * slot) (entry_bytes e) (page_in b num)) w b d

  pub page_else : (k : ℕ) (b : Parcel) → (num ≡ k → ⊥) → page_in (retitled num slot e b) k ≡ page_in b k
  page_else k b d = page_in-with_page_else num k (with_part (256 * slot) (entry_bytes e) (page_in b num)) b (λ t. d (sym t))

  -- a number that is written into another page
  pub number_beside : (k at v : ℕ) (b : Parcel) → (num ≡ k → ⊥) → retitled num slot e (with_number_in k at v b) ≡ with_number_in k at v (retitled num slot e b)
  number_beside k at v b d =
      page_beside k (with_number w64 at v (page_in b k)) b d
      ∙ ap (λ p. with_page k (with_number w64 at v p) (retitled num slot e b)) (sym (page_else k b d))

  -- the body in the slot
  pub body_beside : (body : List ℕ) (b : Parcel) → In num (bundle_pages (bundle_of b)) → length (entry_bytes e) ≡ 192 → 256 * slot + 192 ≤ length (page_in b num)
      → retitled num slot e (with_part_in num (256 * slot + 192) body b) ≡ with_part_in num (256 * slot + 192) body (retitled num slot e b)
  body_beside body b i sized within =
      let at : ℕ = 256 * slot in
      let part : List ℕ = entry_bytes e in
      let page : List ℕ = page_in b num in
      let long : at + length part ≤ length page = omega (arith, sized, within) in
      let seam : at + 192 ≡ at + length part = omega (arith, sized) in
      let first : with_part at part (with_part (at + 192) body page) ≡ with_part (at + 192) body (with_part at part page) =
      ap (λ n. with_part at part (with_part n body page)) seam ∙ with_part-before at part body page long ∙ sym (with_part-behind at part body page long)
      ∙ ap (λ n. with_part n body (with_part at part page)) (sym seam) in
      ap (λ p. with_page num (with_part at part p) (with_part_in num (at + 192) body b)) (page_in-with_page_same num (with_part (at + 192) body page) b i)
      ∙ again_page num (with_part at part (with_part (at + 192) body page)) (with_part (at + 192) body page) b
      ∙ ap (λ w. with_page num w b) first
      ∙ sym (again_page num (with_part (at + 192) body (with_part at part page)) (with_part at part page) b)
      ∙ ap (λ p. with_page num (with_part (at + 192) body p) (retitled num slot e b)) (sym (page_in-with_page_same num (with_part at part page) b i))

  -- a slot that was filled under another kind
  pub filled_over : (o : EntryPart) (body : List ℕ) (b : Parcel) → In num (bundle_pages (bundle_of b)) → length (entry_bytes e) ≡ length (entry_bytes o) → 256 * slot ≤ length (page_in b num)
      → retitled num slot e (filled num slot o body b) ≡ filled num slot e body b
  filled_over o body b i same within =
      let at : ℕ = 256 * slot in
      let page : List ℕ = page_in b num in
      ap (λ p. with_page num (with_part at (entry_bytes e) p) (filled num slot o body b)) (page_in-with_page_same num (with_part at (entry_bytes o ++ body) page) b i)
      ∙ again_page num (with_part at (entry_bytes e) (with_part at (entry_bytes o ++ body) page)) (with_part at (entry_bytes o ++ body) page) b
      ∙ ap (λ w. with_page num w b) (with_part-over at (entry_bytes e) (entry_bytes o) body page within same)
