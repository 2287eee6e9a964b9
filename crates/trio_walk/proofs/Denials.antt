-- Who is denied a grant, and what stays of rights and places in the nodes that are shown.
use Rattle.trio_walk.proofs.Words.{◌%◌, ◌++◌, ◌/◌, ◌<◌, ◌∙◌, ◌∷◌, ◌≡◌, ◌⊎◌, AboveIsOpen, Bool, Case, Creds, Directory, In, IsAmong, IsTree, Kind, List, Mode, Naming, Need, Node, Nodes, None, Option, Row, Shows, Some, ToRead, ToWrite, [], ancestors, ap, arith, cond, eq-eqb, eqb, false, false≢true, find, find-append, inl, inr, is_some, lacks, length, naming_of, ne_eqb, node_at, not, option_map, option_or, permits, refl, rights_of, rights_rows, row_in, row_permits, some_one, suc, sym, true, was_there, zero, ℕ}
use Rattle.std.specs.Prelude.{bit_and}
use Rattle.std.proofs.Math.ListN.{get_or-map}
use Rattle.std.proofs.lemmas.Bool.{or_cases, or_left, or_right}
use Rattle.std.proofs.lemmas.Bool.Decides.{eqb_tells}
use Rattle.trio_rights.specs.Rights.{class_bits_of}
use Rattle.trio_layout.specs.Listing.{is_kept}
use Rattle.trio_surveys.proofs.OwnFiles.{place_parts}
use Rattle.trio_nodes.specs.Legal.{HasRightsOf, rights_row}
use Rattle.trio_laws.proofs.session.Edges.{listed_now, new_dead, node_row, own, row_node}
use Rattle.trio_laws.proofs.session.Namings.{met_of, naming_is}

-- ---- who is denied

-- the row of a node says its rights
pub row_is : (nodes : Nodes) (n : ℕ) (x : Node) → node_at nodes n ≡ Some x → row_in (rights_rows nodes) n ≡ Some (rights_row x)
row_is nodes n x e = get_or-map (option_map rights_row) nodes n None ∙ ap (option_map rights_row) e

-- Where all above gives reading, a grant is denied by the file itself alone.
module _ (nodes : Nodes) (creds : Creds) (ino : ℕ) (need : Need) where
  abbrev rr : List (Option Row)
  rr = rights_rows nodes

  -- the number doesn't give what is needed of it
  abbrev denies_at : ℕ → Bool
  denies_at k = not (row_permits creds (cond (eqb k ino) need ToRead) (row_in (rights_rows nodes) k))

  first_of : (b : Bool) (k : ℕ) (ks : List ℕ) → cond b (Some k) (find (λ n. not (row_permits creds ToRead (row_in (rights_rows nodes) n))) ks) ≡ None → (b ≡ false) × (find (λ n. not (row_permits creds ToRead (row_in (rights_rows nodes) n))) ks ≡ None)
  first_of true k ks h = (let wrong : Some k ≡ None = h in absurd (cc wrong))
  first_of false k ks h = (refl, h)

  own_denies : denies_at ino ≡ not (row_permits creds need (row_in (rights_rows nodes) ino))
  own_denies = ap (λ b. not (row_permits creds (cond b need ToRead) (row_in (rights_rows nodes) ino))) (eq-eqb ino ino refl)

  -- one that is above, or the file itself
  one_denies : (k : ℕ) (b : Bool) → not (row_permits creds need (row_in (rights_rows nodes) ino)) ≡ b → not (row_permits creds ToRead (row_in (rights_rows nodes) k)) ≡ false
      → (denies_at k ≡ false) ⊎ ((k ≡ ino) × (denies_at k ≡ b))
  one_denies k b own above =
      elim (eqb_tells k ino) [
        | inl same ↦ inr (same.1, ap denies_at same.1 ∙ own_denies ∙ own)
        | inr differ ↦ inl (ap (λ c. not (row_permits creds (cond c need ToRead) (row_in (rights_rows nodes) k))) differ.0 ∙ above)
      ]

  denied_by : (up : List ℕ) (b : Bool) → not (row_permits creds need (row_in (rights_rows nodes) ino)) ≡ b → find (λ n. not (row_permits creds ToRead (row_in (rights_rows nodes) n))) up ≡ None
      → find denies_at (up ++ ino ∷ []) ≡ cond b (Some ino) None
  denied_by [] b own above = ap (λ c. cond c (Some ino) None) (own_denies ∙ own)
  denied_by (k ∷ ks) b own above =
      let f = first_of (not (row_permits creds ToRead (row_in (rights_rows nodes) k))) k ks above in
      let rest : find denies_at (ks ++ ino ∷ []) ≡ cond b (Some ino) None = denied_by ks b own f.1 in
      elim (one_denies k b own f.0) [
        | inl free ↦ ap (λ c. cond c (Some k) (find denies_at (ks ++ ino ∷ []))) free ∙ rest
        | inr same ↦
            ap (λ c. cond c (Some k) (find denies_at (ks ++ ino ∷ []))) same.1
            ∙ ap (λ n. cond b (Some n) (find denies_at (ks ++ ino ∷ []))) same.0
            ∙ ap (λ o. cond b (Some ino) o) rest
            ∙ twice b
      ]
    where
      twice : (c : Bool) → cond c (Some ino) (cond c (Some ino) None) ≡ cond c (Some ino) None
      twice true = refl
      twice false = refl

  pub denier_here : (x : Node) → node_at nodes ino ≡ Some x → AboveIsOpen nodes creds ino
      → find denies_at (ancestors (rights_rows nodes) (length (rights_rows nodes)) (row_in (rights_rows nodes) ino) ++ ino ∷ []) ≡ cond (lacks creds need x) (Some ino) None
  denier_here x e above =
      denied_by (ancestors (rights_rows nodes) (length (rights_rows nodes)) (row_in (rights_rows nodes) ino)) (lacks creds need x)
      (ap (λ o. not (row_permits creds need o)) (row_is nodes ino x e)) (above (length (rights_rows nodes)))

-- ---- rights to write

small_bits : (x : ℕ) → x < 8 → eqb (bit_and x 7) 7 ≡ true → eqb (bit_and x 5) 5 ≡ true
small_bits zero lt h = absurd (false≢true h)
small_bits (suc zero) lt h = absurd (false≢true h)
small_bits (suc (suc zero)) lt h = absurd (false≢true h)
small_bits (suc (suc (suc zero))) lt h = absurd (false≢true h)
small_bits (suc (suc (suc (suc zero)))) lt h = absurd (false≢true h)
small_bits (suc (suc (suc (suc (suc zero))))) lt h = refl
small_bits (suc (suc (suc (suc (suc (suc zero)))))) lt h = absurd (false≢true h)
small_bits (suc (suc (suc (suc (suc (suc (suc zero))))))) lt h = refl
small_bits (suc (suc (suc (suc (suc (suc (suc (suc x)))))))) lt h = absurd (omega (arith, lt))

class_small : (creds : Creds) (mode : Mode) (uid gid : ℕ) → class_bits_of creds mode uid gid < 8
class_small creds mode uid gid = by (eqb creds.uid uid) (eqb creds.gid gid)
  where
    by : (b c : Bool) → cond b (mode.0 / 64 % 8) (cond c (mode.0 / 8 % 8) (mode.0 % 8)) < 8
    by true c = omega arith
    by false true = omega arith
    by false false = omega arith

-- who may write a directory may read it
pub reads_too : (creds : Creds) (mode : Mode) (uid gid : ℕ) → permits creds Directory mode uid gid ToWrite ≡ true → permits creds Directory mode uid gid ToRead ≡ true
reads_too creds mode uid gid h =
    let bits : ℕ = class_bits_of creds mode uid gid in
    elim (or_cases (eqb creds.uid 0) (eqb (bit_and bits 7) 7) h) [
      | inl all ↦ or_left (eqb creds.uid 0) (eqb (bit_and bits 5) 5) all
      | inr some ↦ or_right (eqb creds.uid 0) (eqb (bit_and bits 5) 5) (small_bits bits (class_small creds mode uid gid) some)
    ]

-- ---- rights that stay

pub rights_kept : (x y : Node) → HasRightsOf x (Some y) → rights_of y ≡ rights_of x
rights_kept x y h =
    ap (λ (k : Kind). record { kind = k; mode = y.mode; uid = y.uid; gid = y.gid }) h.0
    ∙ ap (λ (k : Mode). record { kind = x.kind; mode = k; uid = y.uid; gid = y.gid }) h.1
    ∙ ap (λ (k : ℕ). record { kind = x.kind; mode = x.mode; uid = k; gid = y.gid }) h.2
    ∙ ap (λ (k : ℕ). record { kind = x.kind; mode = x.mode; uid = x.uid; gid = k }) h.3

-- ---- above a child

pub above_child : (nodes : Nodes) (creds : Creds) (d n : ℕ) (x y : Node) → (d ≡ 0 → ⊥) → node_at nodes d ≡ Some x → node_at nodes n ≡ Some y → y.parent ≡ d → lacks creds ToRead x ≡ false → AboveIsOpen nodes creds d → AboveIsOpen nodes creds n
above_child nodes creds d n x y some at there parent gives above zero = refl
above_child nodes creds d n x y some at there parent gives above (suc steps) =
    let rr : List (Option Row) = rights_rows nodes in
    let denies : ℕ → Bool = λ k. not (row_permits creds ToRead (row_in rr k)) in
    let up : List ℕ = ancestors rr steps (row_in rr d) in
    let A : ℕ → List ℕ = λ q. cond (eqb q 0) [] (ancestors rr steps (row_in rr q) ++ q ∷ []) in
    let list : ancestors rr (suc steps) (row_in rr n) ≡ up ++ d ∷ [] =
    ap (ancestors rr (suc steps)) (row_is nodes n y there) ∙ ap A parent ∙ ap (λ b. cond b [] (up ++ d ∷ [])) (ne_eqb d 0 some) in
    ap (find denies) list
    ∙ find-append denies up (d ∷ [])
    ∙ ap (λ o. option_or o (find denies (d ∷ []))) (above steps)
    ∙ ap (λ o. cond (not (row_permits creds ToRead o)) (Some d) None) (row_is nodes d x at)
    ∙ ap (λ b. cond b (Some d) None) gives

-- ---- places that stay

module _ (c : Case) (nodes nodes' : Nodes) (tree : IsTree nodes) (tree' : IsTree nodes') (a : IsAmong c nodes) (s : Shows c nodes nodes') where
  kept_there : (n : ℕ) (g : Naming) → naming_of c n ≡ Some g → is_kept c (met_of g) ≡ true → (x : Node) × (node_at nodes n ≡ Some x) × (x.parent ≡ g.directory)
  unfolding met_of
  kept_there n g h k =
      let q = place_parts (met_of g).parent (met_of g).page (met_of g).slot (row_in c.rows (met_of g).ino) k in
      let i = naming_is c n g h in
      let r = row_node c nodes nodes' tree tree' a s n q.0 (ap (row_in c.rows) (sym i.number) ∙ q.1) in
      (r.0, r.1, sym r.2 ∙ q.2)

  -- a live file that is shown is held, or in its directory still
  pub placed_same : (n : ℕ) (x y : Node) → node_at nodes n ≡ Some x → node_at nodes' n ≡ Some y → (y.parent ≡ x.parent) ⊎ In n c.bundle.holds
  placed_same n x y e f = by (naming_of c n) refl
    where
      by : (o : Option Naming) → naming_of c n ≡ o → (y.parent ≡ x.parent) ⊎ In n c.bundle.holds
      by None h =
          let w = was_there c nodes nodes' tree tree' a s n y h f in
          inl (w.2 ∙ ap (λ (z : Node). z.parent) (some_one (node_at nodes n) w.0 x w.1 e))
      by (Some g) h =
          let l = listed_now c nodes nodes' tree tree' a s n g h in
          let at : y.parent ≡ g.directory = ap (λ (z : Node). z.parent) (some_one (node_at nodes' n) y l.0 f l.1) ∙ l.2 in
          elim (own c nodes nodes' tree tree' a s n g h) [
            | inl k ↦
                let t = kept_there n g h k in
                inl (at ∙ sym t.2 ∙ ap (λ (z : Node). z.parent) (some_one (node_at nodes n) t.0 x t.1 e))
            | inr (inl i) ↦ inr i
            | inr (inr i) ↦ (let r = node_row c nodes nodes' tree tree' a s n x e in absurd (new_dead c nodes nodes' tree tree' a s n r.0 r.1 i))
          ]

  held_live : (n : ℕ) → In n c.bundle.holds → node_at nodes n ≡ None → ⊥
  held_live n i none = by (row_in c.rows n) refl (a.held n i)
    where
      by : (o : Option Row) → row_in c.rows n ≡ o → is_some o ≡ true → ⊥
      by None e t = false≢true t
      by (Some r) e t = (let x = row_node c nodes nodes' tree tree' a s n r e in let wrong : Some x.0 ≡ None = sym x.1 ∙ none in cc wrong)

  -- and a new one has one of the bundle's numbers
  pub new_number : (n : ℕ) (y : Node) → node_at nodes n ≡ None → node_at nodes' n ≡ Some y → In n c.bundle.numbers
  new_number n y none f = by (naming_of c n) refl
    where
      by : (o : Option Naming) → naming_of c n ≡ o → In n c.bundle.numbers
      by None h = (let w = was_there c nodes nodes' tree tree' a s n y h f in let wrong : Some w.0 ≡ None = sym w.1 ∙ none in absurd (cc wrong))
      by (Some g) h =
          elim (own c nodes nodes' tree tree' a s n g h) [
            | inl k ↦ (let t = kept_there n g h k in let wrong : Some t.0 ≡ None = sym t.1 ∙ none in absurd (cc wrong))
            | inr (inl i) ↦ absurd (held_live n i none)
            | inr (inr i) ↦ i
          ]
