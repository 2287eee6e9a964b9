-- A file that moves to another directory is held first.
use Rattle.trio_calls_dir.proofs.Words.{◌<◌, ◌∙◌, ◌∷◌, ◌≡◌, Ask, Busy, Call, ComesAcross, Creds, DeskSeen, Err, Goes, Hold, Holder, In, InAllShown, IntoItself, IsAcross, IsBusyWalk, IsFound, IsFree, IsListed, IsNotBusy, IsRename, IsTree, LacksMemory, List, MatchResult, MayMove, Met, Needed, NeedsBusyAt, NoMemory, NoWalkMemory, Node, Nodes, None, Ok, Option, Outcome, Path, Replied, Result, SessionSeen, Some, Stop, Told, Took, [], ap, append-nil, batch_nodes, both_dirs, cond, dir_of, eqb, find_named, in_order, inl, is_some, length, moving_needs, name_of, ne_eqb, node_at, node_needs, number_made, option_map_or, refl, subst, sym, tree_stays_through, true, try_ends, walk_into, write_paths, ℕ}
use Rattle.trio_walk.proofs.Ways.{took_busy}
use Rattle.trio_calls_dir.specs.declared.replies.Replied as replied
use Rattle.trio_calls_dir.proofs.Ends.{refused_goes}
use Rattle.trio_calls_dir.proofs.Held as holding
use Rattle.trio_calls_dir.proofs.MovesPaths.{not_on_way}
use Rattle.trio_calls_dir.proofs.MovesWalk.{writes_are}
use Rattle.trio_calls_dir.proofs.OnWay.{into_at}

-- a try that is never busy is kept off by nothing
pub idle_busy : (desk : DeskSeen) (s : SessionSeen) (needs : Nodes → List Needed) (end : Outcome) → IsNotBusy end → NeedsBusyAt desk s needs end
idle_busy desk s needs (Replied reply) i = tt
idle_busy desk s needs NoMemory i = tt
idle_busy desk s needs (Busy holder) i = absurd i

module _ {D : Type 0} (called : D → Ask → Told → D → Type 0) (seen : D → DeskSeen) (d : D) (s : SessionSeen) (call : Call) (from to : Path) (dir new_dir : ℕ) (file : Met) (r : IsRename call from to)
    (a : IsAcross (seen d) s call from to dir new_dir) (f : IsFound (seen d) s from dir file) (free : IsFree (seen d) s to new_dir) where
  abbrev needs : Nodes → List Needed
  needs now = moving_needs now from to dir new_dir

  -- ---- it isn't the new directory itself

  not_itself : file.ino ≡ new_dir → InAllShown (seen d) s (λ now. ⊥)
  not_itself same nodes rows p =
      let now : Nodes = batch_nodes (seen d).creds s.calls nodes in
      let creds : Creds = (seen d).creds in
      let tree : IsTree now = tree_stays_through nodes creds s.calls p.tree (a.may.comes nodes rows p).0 in
      let c = a.comes nodes rows p in
      let enters : (path : Path) → walk_into now creds (both_dirs from to) path ≡ walk_into now creds (write_paths call) path = λ path. ap (λ ws. walk_into now creds ws path) (sym (writes_are call from to r)) in
      let at = into_at now creds true (both_dirs from to) (dir_of to) new_dir (enters (dir_of to) ∙ c.into) in
      not_on_way call from to r now tree creds dir new_dir (enters (dir_of from) ∙ c.out) (f.named nodes rows p ∙ ap Some same) at.0 [] at.1 (append-nil (in_order at.0) ∙ at.2)

  pub itself_goes : file.ino ≡ new_dir → (s' : SessionSeen) → s' ≡ record s { room = s'.room } → (result : Result replied.Replied Stop)
      → MatchResult result (λ x. (x ≡ record { reply = IntoItself; made = 0 }) × (length s'.calls < s'.room.calls)) (λ stop. stop ≡ LacksMemory)
      → Goes called seen d s call (λ now. moving_needs now from to dir new_dir) (try_ends result) (number_made result) d s'
  itself_goes same s' kept result by =
      refused_goes called seen d s s' call needs a.may kept (λ nodes rows p. absurd (not_itself same nodes rows p)) IntoItself tt (λ nodes rows p. absurd (not_itself same nodes rows p)) result by

  -- ---- its hold

  pub may_hold : IsListed (seen d) s file.ino
  may_hold = holding.may_be_held (seen d) s dir (name_of from) file.ino a.opens f.named

  module _ (apart : dir ≡ new_dir → ⊥) where
    needs_one : InAllShown (seen d) s (λ now. moving_needs now from to dir new_dir ≡ record { ino = file.ino; kind = Hold } ∷ [])
    needs_one nodes rows p =
        let now : Nodes = batch_nodes (seen d).creds s.calls nodes in
        let x = f.met.1.met nodes rows p in
        let rest : ℕ → Node → List Needed = λ n z. cond (is_some (find_named now new_dir (name_of to))) [] (cond (eqb dir new_dir) [] (record { ino = n; kind = Hold } ∷ [])) in
        ap (λ (o : Option ℕ). option_map_or (λ n. node_needs n (node_at now n) rest) o []) (f.named nodes rows p)
        ∙ ap (λ (o : Option Node). node_needs file.ino o rest) x.there_now
        ∙ ap (λ o. cond {A = List Needed} (is_some o) [] (cond (eqb dir new_dir) [] (record { ino = file.ino; kind = Hold } ∷ []))) (free.named nodes rows p)
        ∙ ap (λ b. cond {A = List Needed} b [] (record { ino = file.ino; kind = Hold } ∷ [])) (ne_eqb dir new_dir apart)

    module _ (d1 : D) (s1 : SessionSeen) where
      pub busy_goes : (holder : Holder) → Took called seen d s file Hold (Err (IsBusyWalk holder)) d1 s1 → Goes called seen d s call (λ now. moving_needs now from to dir new_dir) (Busy holder) 0 d1 s1
      busy_goes holder t = holding.busy_goes called seen d s call file Hold a.may needs needs_one d1 s1 holder t

      pub short_goes : Took called seen d s file Hold (Err NoWalkMemory) d1 s1 → Goes called seen d s call (λ now. moving_needs now from to dir new_dir) NoMemory 0 d1 s1
      short_goes t = holding.short_goes called seen d s call file Hold a.may needs needs_one d1 s1 t

      -- where the library itself keeps it busy a grant of the session's does
      pub hold_off : (holder : Holder) → Took called seen d s file Hold (Err (IsBusyWalk holder)) d1 s1 → NeedsBusyAt (seen d) s (λ now. moving_needs now from to dir new_dir) (Busy holder)
      hold_off holder t = λ mine.
          let k = took_busy called seen d s file Hold a.may.edits.on d1 s1 holder t mine in
          let x : Needed = record { ino = file.ino; kind = Hold } in
          record { ino = file.ino; kind = Hold; own = k; needed = subst (λ l. In x l) (sym (needs_one k.nodes k.rows k.possible)) (inl refl) }

      module _ (t : Took called seen d s file Hold (Ok true) d1 s1) where
        -- what goes on then goes with the hold
        pub held_goes : (end : Outcome) (number : ℕ) (d' : D) (s' : SessionSeen) → Goes called seen d1 s1 call (λ now. []) end number d' s' → Goes called seen d s call (λ now. moving_needs now from to dir new_dir) end number d' s'
        held_goes end number d' s' goes = holding.held_goes called seen d s call file Hold a.may needs needs_one d1 s1 t end number d' s' goes

        over : (P : Nodes → Type 0) → InAllShown (seen d) s P → InAllShown (seen d1) s1 P
        over P h = holding.over called seen d s call file Hold a.may needs needs_one d1 s1 t P h

        pub may_move : (new_dir ≡ file.ino → ⊥) → MayMove (seen d1) s1 call from to dir new_dir file
        may_move other = record {
          may = holding.may_held called seen d s call file Hold a.may needs needs_one d1 s1 t;
          opens = holding.open_held called seen d s file d1 s1 t dir a.opens;
          opens_new = holding.open_held called seen d s file d1 s1 t new_dir a.opens_new;
          comes = λ nodes rows p.
              subst (λ (k : Creds). ComesAcross (batch_nodes (seen d1).creds s1.calls nodes) k call from to dir new_dir) (sym (holding.went called seen d s call file Hold a.may needs needs_one d1 s1 t).passes.same.creds)
              (over (λ now. ComesAcross now (seen d).creds call from to dir new_dir) a.comes nodes rows p);
          entry = (
            f.entry.0,
            f.entry.1,
            holding.place_held called seen d s file d1 s1 t dir (name_of from) ∙ f.entry.2,
            holding.entry_held called seen d s file d1 s1 t dir f.entry.0 ∙ f.entry.3,
            f.entry.4,
            f.entry.5,
          );
          named = over (λ now. find_named now dir (name_of from) ≡ Some file.ino) f.named;
          free = record {
            name = free.name;
            place = holding.place_held called seen d s file d1 s1 t new_dir (name_of to) ∙ free.place;
            named = over (λ now. find_named now new_dir (name_of to) ≡ None) free.named;
          };
          apart = apart;
          other = other;
        }
