-- What leases show as lent stays true over entries of others.
use Rattle.trio_laws.proofs.Words.{◌&&◌, ◌∙◌, ◌∷◌, ◌≡◌, Agrees, AllStand, Bool, Creds, Done, Entry, Err, GrantKind, HasContent, HasFile, HasHeld, HasRights, HasRightsOf, HasStanding, Hold, HoldParts, In, In-filter, In-left, In-list_any, IsTree, IsWithinGrants, KeepsRights, Kind, Leases, LegalCalls, List, NoHoldOnRoot, Node, Nodes, None, Ok, Option, Past, Raw, Rights, SameContent, Shown, ShownEntry, Sizes, Some, SparesOthers, Standing, [], and_from, and_parts, ap, arith, batch_nodes, bytes_in, cases_eq, cond, creds_in, entry_in, entry_of_node, eq-eqb, eqb, eqb-true, event_of, false, false≢true, inl, inr, is_in, is_others, is_owner, library_of, list_any-In, moded_node, moded_nodes, ne_eqb, node_at, not, not_from_false, option_map, parent_in, past_after, refl, rights_in, rights_of, same_kind, stands_on, subst, sym, tree_stays_through, true, with_node-else, with_node-same, ℕ, is_directory, is_guarded}
use Rattle.std.proofs.Common.{is_some}
use Rattle.trio_nodes.specs.declared.entry.Entry.TheVariants.{Grant, Allot, Back, Batch, Mode as ModeSet}
use Rattle.trio_nodes.specs.Standing.{grants_after}
use Rattle.trio_nodes.proofs.LibraryFacts.{batch_either}
use Rattle.trio_laws.specs.session.Others.{AgreesIsStable, AgreesThrough}
use Rattle.trio_laws.proofs.session.Counts.{count_pair}

-- ---- one file that is spared

-- what a standing grant keeps of a file
pub record IsSpared (nodes nodes' : Nodes) (n : ℕ) : Type 0 where
  pub rights : (x : Node) → node_at nodes n ≡ Some x → HasRightsOf x (node_at nodes' n)
  pub content : SameContent nodes nodes' n

-- and, where the kind and rights of its entries stay too, these
abbrev pub SameEntries : Nodes → Nodes → ℕ → Type 0
SameEntries nodes nodes' n = (m : ℕ) → entry_of_node n (node_at nodes' m) ≡ entry_of_node n (node_at nodes m)

-- the name and the kind of a node
abbrev name_kind : Node → List ℕ × Kind
name_kind x = (x.name, x.kind)

rights_same : (x y : Node) → HasRightsOf x (Some y) → rights_of y ≡ rights_of x
rights_same x y h = search arith

pub has_rights : (rights : Rights) (o o' : Option Node) → ((x : Node) → o ≡ Some x → HasRightsOf x o') → HasRights rights o → HasRights rights o'
has_rights rights None o' s h = absurd (let wrong : None ≡ Some rights = h in cc)
has_rights rights (Some x) None s h = absurd (s x refl)
has_rights rights (Some x) (Some y) s h = ap (λ r. Some r) (rights_same x y (s x refl)) ∙ h

abbrev entry_is : Node → ShownEntry
entry_is x = record { name = x.name; rights = rights_of x }

-- an entry stays where its name and kind do, and its rights
entry_by : (directory : ℕ) (x y : Node) (b c : Bool) → eqb x.parent directory ≡ b → eqb y.parent directory ≡ c
    → cond c (Some (name_kind y)) None ≡ cond b (Some (name_kind x)) None → HasRightsOf x (Some y)
    → cond c (Some (entry_is y)) None ≡ cond b (Some (entry_is x)) None
entry_by directory x y b c p q e h = search (arith, rights_same)

entry_of_none : (directory : ℕ) (y : Node) (c : Bool) → eqb y.parent directory ≡ c → cond c (Some (name_kind y)) None ≡ None
    → cond c (Some (entry_is y)) None ≡ None
entry_of_none directory y c q e = search arith

entry_same : (directory : ℕ) (o o' : Option Node) → entry_in directory o' ≡ entry_in directory o
    → ((x y : Node) → o ≡ Some x → o' ≡ Some y → HasRightsOf x (Some y)) → entry_of_node directory o' ≡ entry_of_node directory o
entry_same directory o o' e h = search (arith, entry_of_none, entry_by)

-- ---- counting

in_by : (directory : ℕ) (o : Option Node) → is_in directory o ≡ is_some (entry_in directory o)
in_by directory o = search arith

-- ---- what agrees goes on agreeing

bytes_same_in : (o o' : Option Node) (bytes : List ℕ) → bytes_in o' ≡ bytes_in o → ((x : Node) → o ≡ Some x → HasRightsOf x o')
    → option_map (λ (x : Node). x.bytes) o ≡ Some bytes → option_map (λ (x : Node). x.bytes) o' ≡ Some bytes
bytes_same_in None o' bytes e h t = absurd (let wrong : None ≡ Some bytes = t in cc)
bytes_same_in (Some x) None bytes e h t = absurd (h x refl)
bytes_same_in (Some x) (Some y) bytes e h t = ap (λ l. Some l) e ∙ t

guard_same_in : (o o' : Option Node) (guarded : Bool) → is_guarded o' ≡ is_guarded o → ((x : Node) → o ≡ Some x → HasRightsOf x o')
    → option_map (λ (x : Node). x.guard) o ≡ Some guarded → option_map (λ (x : Node). x.guard) o' ≡ Some guarded
guard_same_in None o' guarded e h t = absurd (let wrong : None ≡ Some guarded = t in cc)
guard_same_in (Some x) None guarded e h t = absurd (h x refl)
guard_same_in (Some x) (Some y) guarded e h t = ap (λ g. Some g) e ∙ t

module _ (nodes nodes' : Nodes) where
  content_on : (sizes : Sizes) (f : Shown) (d : Bool) → IsSpared nodes nodes' f.ino → SameEntries nodes nodes' f.ino → HasContent sizes nodes f d → HasContent sizes nodes' f d
  content_on sizes f true s e c = λ n. e n ∙ c n
  content_on sizes f false s e c = bytes_same_in (node_at nodes f.ino) (node_at nodes' f.ino) _ s.content.bytes s.rights c

  pub file_on : (sizes : Sizes) (f : Shown) → IsSpared nodes nodes' f.ino → SameEntries nodes nodes' f.ino → HasFile sizes nodes f → HasFile sizes nodes' f
  file_on sizes f s e h = record {
    rights = has_rights (rights_in f.kind f.body) (node_at nodes f.ino) (node_at nodes' f.ino) s.rights h.rights;
    guard = guard_same_in (node_at nodes f.ino) (node_at nodes' f.ino) _ s.content.guard s.rights h.guard;
    content = content_on sizes f (is_directory f.kind) s e h.content;
  }

  pub held_on : (h : HoldParts) → IsSpared nodes nodes' h.ino → HasHeld nodes h → HasHeld nodes' h
  held_on h s w = search (arith, has_rights, count_pair, in_by)

  agrees_on : (sizes : Sizes) (root : Rights) (lent : Leases) → HasRights root (node_at nodes' 1)
      → ((f : Shown) → In f lent.files → IsSpared nodes nodes' f.ino) → ((f : Shown) → In f lent.files → SameEntries nodes nodes' f.ino)
      → ((h : HoldParts) → In h lent.holds → IsSpared nodes nodes' h.ino)
      → Agrees sizes root lent nodes → Agrees sizes root lent nodes'
  agrees_on sizes root lent root_is files entries holds a = record {
    root_is = root_is;
    files = λ f i. file_on sizes f (files f i) (entries f i) (a.files f i);
    holds = λ h i. held_on h (holds h i) (a.holds h i);
  }

  -- where kinds and rights stay, entries do
  pub keep_entries : KeepsRights nodes nodes' → (n : ℕ) → IsSpared nodes nodes' n → SameEntries nodes nodes' n
  keep_entries keep n s = λ m. entry_same n (node_at nodes m) (node_at nodes' m) (s.content.entries m) (keep m)

-- ---- grants that stand

not_and : (a b : Bool) → a ≡ false → not (a && b) ≡ true
not_and true b e = absurd (false≢true (sym e))
not_and false b e = refl

-- a grant of another library stays
stays_standing : (p : Past) (e : Entry) (g : Standing) → In g p.grants → (library_of (event_of e) ≡ g.lib → ⊥) → In g (grants_after p.grants p.entries e)
stays_standing p e g i d = search (arith, In-left, In-filter, not_and, ne_eqb, not_from_false)

module _ (p : Past) (e : Entry) (lib : ℕ) (other : library_of (event_of e) ≡ lib → ⊥) where
  standing_on : (n : ℕ) → HasStanding p.grants lib n → HasStanding (grants_after p.grants p.entries e) lib n
  standing_on n s = record { grant = s.grant; among = stays_standing p e s.grant s.among (λ q. other (q ∙ s.of)); of = s.of; on = s.on }

  all_stand : (lent : Leases) → AllStand p.grants lib lent → AllStand (grants_after p.grants p.entries e) lib lent
  all_stand lent s = record { files = λ f i. standing_on f.ino (s.files f i); holds = λ h i. standing_on h.ino (s.holds h i) }

-- the file is another's
others_here : (grants : List Standing) (lib by n : ℕ) → (by ≡ lib → ⊥) → HasStanding grants lib n → is_others grants by n ≡ true
others_here grants lib by n other s = search (arith, In-list_any, and_from, not_from_false, ne_eqb, eq-eqb)

-- ---- what others spare

spared_by : (grants : List Standing) (by : ℕ) (nodes nodes' : Nodes) (n : ℕ) (x : Node) → node_at nodes n ≡ Some x
    → is_others grants by n ≡ true → SparesOthers grants by nodes nodes' → IsSpared nodes nodes' n
spared_by grants by nodes nodes' n x e o s = record { rights = λ y q. (s n y q o).0; content = (s n x e o).2 }

-- ---- each entry

-- a node that agrees is there
rights_there : (r : Rights) (o : Option Node) → HasRights r o → (x : Node) × (o ≡ Some x)
rights_there r None h = absurd (let wrong : None ≡ Some r = h in cc)
rights_there r (Some x) h = (x, refl)

hold_is : (k : GrantKind) → same_kind k Hold ≡ true → k ≡ Hold
hold_is k e = search (arith, false≢true)

module _ (nodes : Nodes) (grants : List Standing) (lib : ℕ) (sizes : Sizes) (root : Rights) (lent : Leases) (t : IsTree nodes)
    (stand : AllStand grants lib lent) (a : Agrees sizes root lent nodes) where
  -- the root is there with its rights, and what is lent is spared
  agrees_spared : (nodes' : Nodes) → HasRightsOf t.root.0 (node_at nodes' 1) → KeepsRights nodes nodes'
      → ((n : ℕ) (x : Node) → node_at nodes n ≡ Some x → HasStanding grants lib n → IsSpared nodes nodes' n) → Agrees sizes root lent nodes'
  agrees_spared nodes' r keep spare =
      let file : (f : Shown) → In f lent.files → IsSpared nodes nodes' f.ino =
      λ f i. (let x = rights_there (rights_in f.kind f.body) (node_at nodes f.ino) (a.files f i).rights in spare f.ino x.0 x.1 (stand.files f i)) in
      agrees_on nodes nodes' sizes root lent
      (has_rights root (node_at nodes 1) (node_at nodes' 1) (λ x e. (let same : Some x ≡ Some t.root.0 = sym e ∙ t.root.1 in let is : x ≡ t.root.0 = cc same in subst (λ y. HasRightsOf y (node_at nodes' 1)) (sym is) r)) a.root_is)
      file
      (λ f i. keep_entries nodes nodes' keep f.ino (file f i))
      (λ h i. (let x = rights_there (rights_in h.kind h.body) (node_at nodes h.ino) (a.holds h i).rights in spare h.ino x.0 x.1 (stand.holds h i)))
      a

  pub raw_agrees : (creds : Creds) (by : ℕ) (nodes' : Nodes) → (by ≡ lib → ⊥) → NoHoldOnRoot grants → IsWithinGrants grants creds by nodes nodes' → Agrees sizes root lent nodes'
  raw_agrees creds by nodes' other no_hold w =
      agrees_spared nodes' root_rights (λ n x y e f. w.rights n x y e f)
      (λ n x e s. spared_by grants by nodes nodes' n x e (others_here grants lib by n other s) w.others)
    where
      root_rights : HasRightsOf t.root.0 (node_at nodes' 1)
      root_rights = search (arith, list_any-In, and_parts, hold_is, eqb-true)

  batch_agrees : (creds : Creds) (by : ℕ) (calls : List Done) → (by ≡ lib → ⊥) → LegalCalls creds nodes calls
      → KeepsRights nodes (batch_nodes creds calls nodes) → SparesOthers grants by nodes (batch_nodes creds calls nodes)
      → Agrees sizes root lent (batch_nodes creds calls nodes)
  batch_agrees creds by calls other l keep spares =
      let after = tree_stays_through nodes creds calls t l in
      agrees_spared (batch_nodes creds calls nodes)
      (subst (λ o. HasRightsOf t.root.0 o) (sym after.root.1) (keep 1 t.root.0 after.root.0 t.root.1 after.root.1)) keep
      (λ n x e s. spared_by grants by nodes (batch_nodes creds calls nodes) n x e (others_here grants lib by n other s) spares)

-- ---- a change of mode

moded_entry : (directory mode : ℕ) (o : Option Node) → entry_in directory (moded_node mode o) ≡ entry_in directory o
moded_entry directory mode None = refl
moded_entry directory mode (Some x) = refl

-- where the directory doesn't list the file, it shows nothing of it before or after
unlisted_entry : (directory : ℕ) (x : Node) → (x.parent ≡ directory → ⊥) → entry_of_node directory (Some x) ≡ None
unlisted_entry directory x d = ap (λ b. cond b (Some (entry_is x)) None) (ne_eqb x.parent directory d)

moded_listed : (directory mode : ℕ) (o : Option Node) → (parent_in o ≡ directory → ⊥) → entry_of_node directory (moded_node mode o) ≡ entry_of_node directory o
moded_listed directory mode None d = refl
moded_listed directory mode (Some x) d = unlisted_entry directory (record x { mode = record { 0 = mode } }) d ∙ sym (unlisted_entry directory x d)

pub owner_not_root : (creds : Creds) (ino : ℕ) (o : Option Node) → is_owner creds ino o ≡ true → ino ≡ 1 → ⊥
owner_not_root creds ino o e is = search (arith, false≢true, and_parts, eq-eqb)

not_standing : (grants : List Standing) (lib ino n : ℕ) → stands_on grants ino ≡ false → HasStanding grants lib n → n ≡ ino → ⊥
not_standing grants lib ino n none s e =
    false≢true (sym none ∙ In-list_any (λ g. eqb g.ino ino) s.grant grants s.among (eq-eqb s.grant.ino ino (s.on ∙ e)))

module _ (nodes : Nodes) (ino mode : ℕ) where
  pub moded_else : (m : ℕ) → (m ≡ ino → ⊥) → node_at (moded_nodes ino mode nodes) m ≡ node_at nodes m
  moded_else m d = with_node-else nodes ino m (moded_node mode (node_at nodes ino)) d

module _ (nodes : Nodes) (grants : List Standing) (lib : ℕ) (ino mode : ℕ)
    (free : stands_on grants ino ≡ false) (directory_free : stands_on grants (parent_in (node_at nodes ino)) ≡ false) where
  moded_other : (m : ℕ) → (m ≡ ino → ⊥) → node_at (moded_nodes ino mode nodes) m ≡ node_at nodes m
  moded_other = moded_else nodes ino mode

  moded_here : node_at (moded_nodes ino mode nodes) ino ≡ moded_node mode (node_at nodes ino)
  moded_here = with_node-same nodes ino (moded_node mode (node_at nodes ino))

  pub moded_spares : (n : ℕ) → HasStanding grants lib n → IsSpared nodes (moded_nodes ino mode nodes) n
  moded_spares n s =
      let apart : n ≡ ino → ⊥ = not_standing grants lib ino n free s in
      record {
        rights = λ x e. subst (λ o. HasRightsOf x o) (sym (moded_other n apart ∙ e)) (refl, refl, refl, refl);
        content = search (arith, moded_other, cases_eq, moded_here, moded_entry);
      }

  pub moded_entries : (n : ℕ) → HasStanding grants lib n → SameEntries nodes (moded_nodes ino mode nodes) n
  moded_entries n s m =
      elim (cases_eq m ino) [
        | inl is ↦
            subst (λ k. entry_of_node n (node_at (moded_nodes ino mode nodes) k) ≡ entry_of_node n (node_at nodes k)) (sym is)
            (ap (entry_of_node n) moded_here ∙ moded_listed n mode (node_at nodes ino) (λ e. not_standing grants lib (parent_in (node_at nodes ino)) n directory_free s (sym e)))
        | inr d ↦ ap (entry_of_node n) (moded_other m d)
      ]

  module _ (sizes : Sizes) (root : Rights) (lent : Leases) (stand : AllStand grants lib lent) (a : Agrees sizes root lent nodes) (not_root : ino ≡ 1 → ⊥) where
    moded_agrees : Agrees sizes root lent (moded_nodes ino mode nodes)
    moded_agrees =
        agrees_on nodes (moded_nodes ino mode nodes) sizes root lent
        (ap (option_map rights_of) (moded_other 1 (λ e. not_root (sym e))) ∙ a.root_is)
        (λ f i. moded_spares f.ino (stand.files f i)) (λ f i. moded_entries f.ino (stand.files f i)) (λ h i. moded_spares h.ino (stand.holds h i)) a

pub agrees_is_stable : AgreesIsStable
agrees_is_stable libs p (Grant by ino kind answer) lib sizes root lent t no_hold legal other stand a = (a, all_stand p (Grant by ino kind answer) lib other lent stand)
agrees_is_stable libs p (Allot by pages inodes answer) lib sizes root lent t no_hold legal other stand a = (a, all_stand p (Allot by pages inodes answer) lib other lent stand)
agrees_is_stable libs p (Back by ino) lib sizes root lent t no_hold legal other stand a = (a, all_stand p (Back by ino) lib other lent stand)
agrees_is_stable libs p (Raw by verdict files bundle) lib sizes root lent t no_hold legal other stand a = search (arith, all_stand, raw_agrees, batch_either, batch_agrees, moded_agrees, owner_not_root)
agrees_is_stable libs p (Batch by calls handed) lib sizes root lent t no_hold legal other stand a = (
  batch_either (λ nodes. Agrees sizes root lent nodes) libs by.0 calls p.nodes a
      (batch_agrees p.nodes p.grants lib sizes root lent t stand a (creds_in libs by.0) by.0 calls other legal.done legal.rights legal.others),
  all_stand p (Batch by calls handed) lib other lent stand,
)
agrees_is_stable libs p (ModeSet by ino mode (Err fault) call) lib sizes root lent t no_hold legal other stand a =
    (a, all_stand p (ModeSet by ino mode (Err fault) call) lib other lent stand)
agrees_is_stable libs p (ModeSet by ino mode (Ok done) call) lib sizes root lent t no_hold legal other stand a = search (arith, all_stand, raw_agrees, batch_either, batch_agrees, moded_agrees, owner_not_root)

pub agrees_through : AgreesThrough
agrees_through libs p last [] lib sizes root lent legal others stand a = search (arith, agrees_is_stable)
agrees_through libs p last (e ∷ es) lib sizes root lent legal others stand a =
    let one = agrees_is_stable libs p e lib sizes root lent others.0 others.1 legal.0 others.2 stand a in
    agrees_through libs (past_after libs p e) last es lib sizes root lent legal.1 others.3 one.1 one.0
