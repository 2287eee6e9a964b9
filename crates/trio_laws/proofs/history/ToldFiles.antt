-- The entry of a release tells of the files that were handed in, that are new or that have another name, each once.
use Rattle.trio_laws.proofs.Words.{◌&&◌, ◌<◌, ◌||◌, ◌∙◌, ◌∷◌, ◌≡◌, Bool, Bundle, Handed, Image, List, Node, Nodes, None, OpenGrant, Option, RawFile, Row, Some, ToldBlock, [], ap, are_new, arith, both_ways, bundle_handed, bytes_eq, bytes_eq-Decides, cond, count_up, eq-eqb, eqb, eqb-true, false, inl, inr, is_given, is_handed, is_told, list_any-In, map-In, name_by, new_beside, node_at, node_by, not, or_cases, or_left, or_parts, or_right, raw_file, raw_files, raw_node, raw_nodes, refl, row_at, sym, told_by, true, with_node, with_node-else, ℕ}
use Rattle.std.proofs.Common.{map, is_some}
use Rattle.trio_nodes.specs.Legal.{TellsThese, is_new_or_renamed, tells_of}
use Rattle.trio_laws.proofs.history.RawGiven.{bool_same, files_from, handed_is, is_in}
use Rattle.trio_laws.proofs.history.RawParts.{raw_number}
use Rattle.trio_laws.proofs.history.RisingKeys.{Rising, counted_rising}

-- ---- each once

rising_new : {X : Type 0} (key : X → ℕ) (xs : List X) → Rising key xs → are_new [] (map key xs) ≡ true
rising_new key [] r = refl
rising_new key (x ∷ xs) r =
    new_beside (key x ∷ []) (map key xs) (rising_new key xs r.1)
    (λ n i j. elim j [
      | inl same ↦
          let y = map-In key n xs i in
          let l : key x < key y.0 = r.0 y.0 y.1 in
          let e : n ≡ key y.0 = y.2 in
          let f : n ≡ key x = same in
          omega (arith, l, e, f)
      | inr none ↦ none
    ])

-- they stay as they are
untold_stays : (blocks : List ToldBlock) (files : List RawFile) (nodes : Nodes) (n : ℕ) → tells_of files n ≡ false → node_at (raw_nodes blocks files nodes) n ≡ node_at nodes n
untold_stays blocks [] nodes n t = refl
untold_stays blocks (f ∷ fs) nodes n t =
    let p = or_parts (eqb f.ino n) (tells_of fs n) t in
    untold_stays blocks fs (with_node nodes f.ino (raw_node blocks f (node_at nodes f.ino))) n p.1
    ∙ with_node-else nodes f.ino n (raw_node blocks f (node_at nodes f.ino)) (λ e. both_ways (eqb f.ino n) p.0 (eq-eqb f.ino n (sym e)))

-- and weren't given
untold_ungiven : (files : List RawFile) (n : ℕ) → tells_of files n ≡ false → is_given files n ≡ false
untold_ungiven [] n t = refl
untold_ungiven (f ∷ fs) n t =
    let p = or_parts (eqb f.ino n) (tells_of fs n) t in
    ap (λ x. (x && f.given) || is_given fs n) p.0 ∙ untold_ungiven fs n p.1

-- what stays as it is is neither new nor renamed
same_unnamed : (o : Option Node) → is_new_or_renamed o o ≡ false
same_unnamed None = refl
same_unnamed (Some x) = ap not ((bytes_eq-Decides x.name x.name).1 refl)

-- ---- files that are told

told_true : {X : Type 0} (t : Bool) (o : Option X) (x : X) → cond t o None ≡ Some x → t ≡ true
told_true true o x e = refl
told_true false o x e = absurd cc

module _ (before after : Image) (h : Handed) where
  abbrev b : Bundle
  b = bundle_handed h

  abbrev these : List RawFile
  these = raw_files before after b

  -- the name of the row isn't that of before
  abbrev is_changed : ℕ → Option Row → Option Row → Bool
  is_changed n o o' = is_some o' && not (bytes_eq (name_by before n o) (name_by after n o'))

  changed_means : (n : ℕ) (w w' : Option OpenGrant) (o o' : Option Row) → is_changed n o o' ≡ true → is_new_or_renamed (node_by before n w o) (node_by after n w' o') ≡ true
  changed_means n w w' o o' t = search arith

  told_means : (n : ℕ) (w w' : Option OpenGrant) → is_told before after b n ≡ true → (is_in b n || is_new_or_renamed (node_by before n w (row_at before n)) (node_by after n w' (row_at after n))) ≡ true
  told_means n w w' t = search (arith, or_cases, or_left, or_right, changed_means)

  once : are_new [] (map (λ (f : RawFile). f.ino) these) ≡ true
  once = rising_new (λ (f : RawFile). f.ino) these (counted_rising (λ (f : RawFile). f.ino) (raw_file before after b) (raw_number before after b) 1 before.core.inodes)

  module _ (nodes : Nodes) (blocks : List ToldBlock) (w w' : ℕ → Option OpenGrant)
      (was : (n : ℕ) → node_at nodes n ≡ node_by before n (w n) (row_at before n))
      (is : (n : ℕ) → node_at (raw_nodes blocks these nodes) n ≡ node_by after n (w' n) (row_at after n))
      (given : (n : ℕ) → is_given these n ≡ is_handed h n) where
    abbrev why : ℕ → Bool
    why n = is_handed h n || is_new_or_renamed (node_at nodes n) (node_at (raw_nodes blocks these nodes) n)

    told_why : (n : ℕ) → tells_of these n ≡ true → why n ≡ true
    told_why n t =
        let a = list_any-In (λ (f : RawFile). eqb f.ino n) these t in
        let m = files_from (raw_file before after b) (count_up 1 before.core.inodes) a.0 a.1 in
        let same : m.0 ≡ n = sym (raw_number before after b m.0 a.0 m.1) ∙ eqb-true a.0.ino n a.2 in
        let told : is_told before after b m.0 ≡ true = told_true (is_told before after b m.0) (told_by before after b m.0 (row_at before m.0) (row_at after m.0)) a.0 m.1 in
        search (arith, handed_is, told_means)

    untold_why : (n : ℕ) → tells_of these n ≡ false → why n ≡ false
    untold_why n t = search (arith, untold_ungiven, untold_stays, same_unnamed)

    why_told : (n : ℕ) (t : Bool) → tells_of these n ≡ t → why n ≡ true → tells_of these n ≡ true
    why_told n true e y = e
    why_told n false e y = absurd (both_ways (why n) (untold_why n e) y)

    pub tells_these : TellsThese these h nodes (raw_nodes blocks these nodes)
    tells_these = record { these = λ n. bool_same (tells_of these n) (why n) (told_why n) (why_told n (tells_of these n) refl); once = once }
