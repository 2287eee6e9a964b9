-- A file that is removed is held first.
use Rattle.trio_calls_dir.proofs.Words.{◌∙◌, ◌∷◌, ◌≡◌, Ask, Busy, Call, ComesInto, Creds, DeskSeen, Directory, EntryPart, Err, FindsEntry, Goes, HasMet, Hold, Holder, InAllShown, IsBusyWalk, IsListed, IsOpenDir, Kind, List, MayCall, MayWalk, Met, Needed, NoMemory, NoWalkMemory, Node, Nodes, Ok, Option, Outcome, Path, Place, Regular, SessionSeen, Some, Told, Took, [], ap, batch_nodes, cond, entry_shown, false, find_named, is_directory, is_root, name_of, named_needs, node_at, node_needs, option_map_or, place_shown, removing, removing_needs, subst, sym, true, ℕ, Link}
use Rattle.trio_calls_dir.proofs.Held as holding

-- What is known of a file that is to be removed, before it is held: its directory is open, and lists it by the name.
pub record MayRemove (desk : DeskSeen) (s : SessionSeen) (call' : Call) (path' : Path) (dir' : ℕ) (file' : Met) : Type 0 where
  pub may : MayCall desk s
  pub call : call' ≡ removing (is_directory file'.kind) path'
  pub root : is_root path' ≡ false
  pub opens : IsOpenDir s dir'
  pub comes : InAllShown desk s (λ now. ComesInto now desk.creds call' path' dir')
  pub entry : FindsEntry s dir' (name_of path') (Some file')
  pub met : HasMet desk s file'
  pub named : InAllShown desk s (λ now. find_named now dir' (name_of path') ≡ Some file'.ino)

-- and when it is had
pub record MayClear (desk : DeskSeen) (s : SessionSeen) (call' : Call) (path' : Path) (dir' : ℕ) (file' : Met) : Type 0 where
  pub may : MayCall desk s
  pub walks : MayWalk desk s
  pub call : call' ≡ removing (is_directory file'.kind) path'
  pub opens : IsOpenDir s dir'
  pub comes : InAllShown desk s (λ now. ComesInto now desk.creds call' path' dir')
  pub place : Place
  pub entry : EntryPart
  pub there : place_shown s dir' (name_of path') ≡ Some place
  pub says : entry_shown s dir' place ≡ Some entry
  pub number : file'.ino ≡ entry.ino
  pub node : InAllShown desk s (λ now. (x : Node) × (node_at now file'.ino ≡ Some x) × (x.kind ≡ file'.kind))
  pub named : InAllShown desk s (λ now. find_named now dir' (name_of path') ≡ Some file'.ino)

hold_need : (k : Kind) (n : ℕ) (x : Node) → x.kind ≡ k → removing_needs (is_directory k) n x ≡ record { ino = n; kind = Hold } ∷ []
hold_need Directory n x e = ap (λ q. cond (is_directory q) (record { ino = n; kind = Hold } ∷ []) []) e
hold_need Regular n x e = ap (λ q. cond (is_directory q) [] (record { ino = n; kind = Hold } ∷ [])) e
hold_need Link n x e = ap (λ q. cond (is_directory q) [] (record { ino = n; kind = Hold } ∷ [])) e

module _ {D : Type 0} (called : D → Ask → Told → D → Type 0) (seen : D → DeskSeen) (d : D) (s : SessionSeen) (call : Call) (path : Path) (dir : ℕ) (file : Met) (r : MayRemove (seen d) s call path dir file) where
  abbrev needs : Nodes → List Needed
  needs now = named_needs now dir (name_of path) (removing_needs (is_directory file.kind))

  needs_one : InAllShown (seen d) s (λ now. named_needs now dir (name_of path) (removing_needs (is_directory file.kind)) ≡ record { ino = file.ino; kind = Hold } ∷ [])
  needs_one nodes rows p =
      let now : Nodes = batch_nodes (seen d).creds s.calls nodes in
      let m = r.met.1.met nodes rows p in
      ap (λ (o : Option ℕ). option_map_or (λ n. node_needs n (node_at now n) (removing_needs (is_directory file.kind))) o []) (r.named nodes rows p)
      ∙ ap (λ (o : Option Node). node_needs file.ino o (removing_needs (is_directory file.kind))) m.there_now
      ∙ hold_need file.kind file.ino m.after m.kind

  -- its directory lists it, so it may be held
  pub may_hold : IsListed (seen d) s file.ino
  may_hold = holding.may_be_held (seen d) s dir (name_of path) file.ino r.opens r.named

  module _ (d1 : D) (s1 : SessionSeen) where
    pub busy_goes : (holder : Holder) → Took called seen d s file Hold (Err (IsBusyWalk holder)) d1 s1
        → Goes called seen d s call (λ now. named_needs now dir (name_of path) (removing_needs (is_directory file.kind))) (Busy holder) 0 d1 s1
    busy_goes holder t = holding.busy_goes called seen d s call file Hold r.may needs needs_one d1 s1 holder t

    pub short_goes : Took called seen d s file Hold (Err NoWalkMemory) d1 s1
        → Goes called seen d s call (λ now. named_needs now dir (name_of path) (removing_needs (is_directory file.kind))) NoMemory 0 d1 s1
    short_goes t = holding.short_goes called seen d s call file Hold r.may needs needs_one d1 s1 t

    -- ---- where it is had

    module _ (t : Took called seen d s file Hold (Ok true) d1 s1) where
      -- what goes on then goes with the hold
      pub held_goes : (end : Outcome) (number : ℕ) (d' : D) (s' : SessionSeen) → Goes called seen d1 s1 call (λ now. []) end number d' s'
          → Goes called seen d s call (λ now. named_needs now dir (name_of path) (removing_needs (is_directory file.kind))) end number d' s'
      held_goes end number d' s' goes = holding.held_goes called seen d s call file Hold r.may needs needs_one d1 s1 t end number d' s' goes

      over : (P : Nodes → Type 0) → InAllShown (seen d) s P → InAllShown (seen d1) s1 P
      over P h = holding.over called seen d s call file Hold r.may needs needs_one d1 s1 t P h

      pub may_clear : MayClear (seen d1) s1 call path dir file
      may_clear = record {
        may = holding.may_held called seen d s call file Hold r.may needs needs_one d1 s1 t;
        walks = t.may;
        call = r.call;
        opens = holding.open_held called seen d s file d1 s1 t dir r.opens;
        comes = λ nodes rows p.
            subst (λ (k : Creds). ComesInto (batch_nodes (seen d1).creds s1.calls nodes) k call path dir) (sym (holding.went called seen d s call file Hold r.may needs needs_one d1 s1 t).passes.same.creds)
            (over (λ now. ComesInto now (seen d).creds call path dir) r.comes nodes rows p);
        place = r.entry.0;
        entry = r.entry.1;
        there = holding.place_held called seen d s file d1 s1 t dir (name_of path) ∙ r.entry.2;
        says = holding.entry_held called seen d s file d1 s1 t dir r.entry.0 ∙ r.entry.3;
        number = r.entry.4;
        node = over (λ now. (x : Node) × (node_at now file.ino ≡ Some x) × (x.kind ≡ file.kind)) (λ nodes rows p. (let m = r.met.1.met nodes rows p in (m.after, m.there_now, m.kind)));
        named = over (λ now. find_named now dir (name_of path) ≡ Some file.ino) r.named;
      }
