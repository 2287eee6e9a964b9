-- What slots list before and after they are written, and which entries keep to the rules.
use Rattle.trio_edit_laws.proofs.Words.{◌||◌, ◌∙◌, ◌∷◌, ◌≡◌, Case, Empty, Entry, EntryPart, In, In-is_among, Kind, List, Listed, Met, Naming, Node, Nodes, None, Ok, SlotRead, SlotWrite, Some, [], and_from, and_parts, ap, arith, body_at, body_before, body_of, entries_or_none, entry_in_grammar, entry_is_own, entry_keeps_rights, false, false_from_ne_true, has_kind, inl, inr, is_among, is_among-In, is_kept, is_place_of, is_some, judged_entries, lent_body, list_all, list_all-In, listed_at, node_at, not_from_false, or_left, or_right, refl, row_in, some_of, subst, sym, true, true-bytes_eq, ℕ, guard_in, with_judged, Bool, Option}
use Rattle.trio_laws.proofs.session.Edges.{row_node}
use Rattle.trio_edit_laws.specs.session.SlotEdits.{moved, rekinded, retitled}
use Rattle.trio_edit_laws.proofs.session.Judged.{IsShown, owned}

-- ---- slots

-- the entry of a directory, as the slot had it
abbrev pub naming_before : SlotWrite → EntryPart → Naming
naming_before w e = record {
  directory = w.directory.ino;
  listed = record { entry = e; page = w.page; slot = w.slot; body = body_before w };
}

pub listed_empty : (page slot : ℕ) (body : List ℕ) (r : SlotRead) → r ≡ Empty → entries_or_none (listed_at page slot body r) ≡ []
listed_empty page slot body r e = ap (λ x. entries_or_none (listed_at page slot body x)) e

pub listed_entry : (page slot : ℕ) (body : List ℕ) (r : SlotRead) (e : EntryPart) → r ≡ Entry e → entries_or_none (listed_at page slot body r) ≡ record { entry = e; page = page; slot = slot; body = body } ∷ []
listed_entry page slot body r e t = ap (λ x. entries_or_none (listed_at page slot body x)) t

pub reads_empty : (page slot : ℕ) (body : List ℕ) (r : SlotRead) → r ≡ Empty → listed_at page slot body r ≡ Ok (entries_or_none (listed_at page slot body r))
reads_empty page slot body r e = ap (listed_at page slot body) e ∙ ap Ok (sym (listed_empty page slot body r e))

pub reads_entry : (page slot : ℕ) (body : List ℕ) (r : SlotRead) (e : EntryPart) → r ≡ Entry e → listed_at page slot body r ≡ Ok (entries_or_none (listed_at page slot body r))
reads_entry page slot body r e t = ap (listed_at page slot body) t ∙ ap Ok (sym (listed_entry page slot body r e t))

-- one entry, or none
pub in_one : (l x : Listed) (ls : List Listed) → ls ≡ l ∷ [] → In x ls → x ≡ l
in_one l x ls e i = elim (subst (λ z. In x z) e i) [ inl same ↦ same | inr no' ↦ absurd no' ]

pub in_none : (x : Listed) (ls : List Listed) → ls ≡ [] → In x ls → ⊥
in_none x ls e i = subst (λ z. In x z) e i

pub one_in : (l : Listed) (ls : List Listed) → ls ≡ l ∷ [] → In l ls
one_in l ls e = subst (λ z. In l z) (sym e) (inl refl)

pub only : (w : SlotWrite) (P : SlotWrite → Type 0) → P w → (x : SlotWrite) → In x (w ∷ []) → P x
only w P p x (inl e) = subst P (sym e) p
only w P p x (inr no') = absurd no'

pub either : (w z : SlotWrite) (P : SlotWrite → Type 0) → P w → P z → (x : SlotWrite) → In x (w ∷ z ∷ []) → P x
either w z P p q x (inl e) = subst P (sym e) p
either w z P p q x (inr i) = only z P q x i

pub named_so : (N : Naming) (P : Naming → Type 0) → P N → (e : Naming) → Some N ≡ Some e → P e
named_so N P p e t = let same : N ≡ e = cc t in subst P same p

pub not_none : (N : Naming) → Some N ≡ None → ⊥
not_none N t = cc t

pub none_not : (N : Naming) → None ≡ Some N → ⊥
none_not N t = cc t

-- a file that is made, by the kind and the body in its slot
abbrev pub made_node : ℕ → List ℕ → Kind → List ℕ → Node
made_node directory name kind body =
    record { parent = directory; name = name; kind = kind; mode = (body_at body).mode; uid = (body_at body).uid; gid = (body_at body).gid; guard = guard_in body; bytes = [] }

pub made_same : (directory : ℕ) (name : List ℕ) (k k' : Kind) (l l' : List ℕ) → k ≡ k' → l ≡ l' → made_node directory name k l ≡ made_node directory name k' l'
made_same directory name k k' l l' kind body = ap (made_node directory name k) body ∙ ap (λ x. made_node directory name x l') kind

-- ---- nodes

-- another name, or another place, goes with bytes and guard
pub retitled-judged : (name : List ℕ) (q : Option (List ℕ)) (g : Option Bool) (x : Node) → retitled name (with_judged q g x) ≡ with_judged q g (retitled name x)
retitled-judged name None None x = refl
retitled-judged name None (Some guarded) x = refl
retitled-judged name (Some bytes) None x = refl
retitled-judged name (Some bytes) (Some guarded) x = refl

pub moved-judged : (directory : ℕ) (name : List ℕ) (q : Option (List ℕ)) (g : Option Bool) (x : Node) → moved directory name (with_judged q g x) ≡ with_judged q g (moved directory name x)
moved-judged directory name None None x = refl
moved-judged directory name None (Some guarded) x = refl
moved-judged directory name (Some bytes) None x = refl
moved-judged directory name (Some bytes) (Some guarded) x = refl

pub rekinded-judged : (kind : Kind) (q : Option (List ℕ)) (g : Option Bool) (x : Node) → rekinded kind (with_judged q g x) ≡ with_judged q g (rekinded kind x)
rekinded-judged kind None None x = refl
rekinded-judged kind None (Some guarded) x = refl
rekinded-judged kind (Some bytes) None x = refl
rekinded-judged kind (Some bytes) (Some guarded) x = refl

-- ---- a case that shows nodes

module _ {c : Case} {nodes nodes' : Nodes} (v : IsShown c nodes nodes') where
  pub new_unheld : (n : ℕ) → In n c.bundle.numbers → is_among n c.bundle.holds ≡ false
  new_unheld n i =
      false_from_ne_true (is_among n c.bundle.holds) (λ t.
      let r = some_of (row_in c.rows n) (v.among.held n (is_among-In n c.bundle.holds t)) in
      let wrong : None ≡ Some r.0 = sym (v.among.new n i) ∙ r.1 in cc wrong)

  pub new_unkept : (m : Met) → In m.ino c.bundle.numbers → is_kept c m ≡ false
  new_unkept m i = ap (is_place_of m.parent m.page m.slot) (v.among.new m.ino i)

  -- the entry of a new file keeps no rights
  pub new_keeps : (m : Met) → In m.ino c.bundle.numbers → entry_keeps_rights c m ≡ true
  new_keeps m i = search (arith, new_unkept, or_left, not_from_false, new_unheld)

  pub new_own : (m : Met) → In m.ino c.bundle.numbers → entry_is_own c m ≡ true
  new_own m i = or_right (is_kept c m || is_among m.ino c.bundle.holds) (is_among m.ino c.bundle.numbers) (In-is_among m.ino c.bundle.numbers i)

  pub held_own : (m : Met) → In m.ino c.bundle.holds → entry_is_own c m ≡ true
  held_own m i =
      or_left (is_kept c m || is_among m.ino c.bundle.holds) (is_among m.ino c.bundle.numbers) (or_right (is_kept c m) (is_among m.ino c.bundle.holds) (In-is_among m.ino c.bundle.holds i))

  pub grammar_of : (m : Met) → In m (judged_entries c) → entry_in_grammar c m ≡ true
  grammar_of m i = list_all-In (entry_in_grammar c) m (judged_entries c) (and_parts _ (list_all (entry_in_grammar c) (judged_entries c)) v.shows.grammar).1 i

  pub own_of : (m : Met) → In m (judged_entries c) → entry_is_own c m ≡ true
  own_of m i = list_all-In (entry_is_own c) m (judged_entries c) (owned v).entries i

  pub keeps_of : (m : Met) → In m (judged_entries c) → entry_keeps_rights c m ≡ true
  keeps_of m i = list_all-In (entry_keeps_rights c) m (judged_entries c) (and_parts (list_all (entry_keeps_rights c) (judged_entries c)) _ v.shows.rights).0 i

  -- the body in the slot of a new file is in the grammar
  pub new_body : (m : Met) → In m (judged_entries c) → In m.ino c.bundle.numbers → is_some (body_of m.kind c.range m.body) ≡ true
  new_body m i new =
      sym (ap (λ t. t || is_some (body_of m.kind c.range m.body)) (new_unkept m new)) ∙ grammar_of m i

  -- the entry of a held file has its kind
  pub held_kind : (m : Met) → In m (judged_entries c) → In m.ino c.bundle.holds → has_kind m.kind (row_in c.rows m.ino) ≡ true
  held_kind m i held = search (arith, keeps_of, In-is_among, and_parts)

  -- so it keeps its rights wherever it is listed with the lent body
  pub held_keeps : (m : Met) → has_kind m.kind (row_in c.rows m.ino) ≡ true → m.body ≡ lent_body c m.ino → entry_keeps_rights c m ≡ true
  held_keeps m kind body = search (arith, or_right, and_from, true-bytes_eq)

  pub held_there : (n : ℕ) → In n c.bundle.holds → node_at nodes n ≡ None → ⊥
  held_there n i none = search (arith, some_of, row_node)
