-- What the walks of a rename take excludes none of its later grants.
use Rattle.trio_calls_dir.proofs.Words.{◌++◌, ◌∙◌, ◌∷◌, ◌≡◌, ArePossible, Ask, At, Bool, Busy, BusyGrant, Call, Creds, DeskSeen, Done, Err, Grant, GrantKind, HasNothing, Hold, HoldLease, Holder, In, In-cases, In-map, In-right, IsBusyWalk, IsOut, IsRename, IsReply, IsStopped, IsTree, Lease, List, MayWalk, Need, Needed, NeedsBusyAt, NoMemory, NoWalkMemory, Node, Nodes, None, NotLent, Ok, Option, OthersHold, Outcome, Path, Read, ReadLease, Replied, Reply, Result, Row, SessionSeen, Some, Stop, StopsBy, Told, WalkEnd, Walked, WalksInto, WriteLease, [], across_needs, ap, append-nil, asked, asked_beside-In, batch_nodes, both_dirs, cond, dir_of, eqb, false, find_named, in_order, inl, inr, into_needs, is_some, kind_for, kind_lent, lib_same, map, moving_needs, name_of, need_at, need_of, node_at, node_needs, option_map_or, possible_then, reached_by, refl, served_by, shows_root, subst, sym, true, try_ends, walk_into, ℕ}
use Rattle.trio_rights.specs.declared.rights.Need.TheVariants.{Read as NeedsRead, Write as NeedsWrite}
use Rattle.trio_lists.proofs.Members.{In-left}
use Rattle.trio_nodes.specs.declared.grant.GrantKind.TheVariants.{Write}
use Rattle.trio_walk.proofs.Agreeing.{IsNeedAt, into_need, need_one}
use Rattle.trio_calls_dir.specs.declared.replies.Replied as replied
use Rattle.trio_calls_dir.specs.inner.Moves.{OwnKeepsOff}
use Rattle.trio_calls_dir.proofs.MovesPaths.{not_on_way}
use Rattle.trio_calls_dir.proofs.MovesWalk.{shown_tree, still_out}
use Rattle.trio_calls_dir.proofs.OnWay.{IsOnWay, into_alike, not_below, on_way, root_entered}
use Rattle.trio_walk.proofs.OwnBusy.{Excludes, busy_took, nothing_own}
use Rattle.trio_walk.proofs.Ways.{way_calls, way_more, way_same}

-- what is needed of a file that moves is a hold on it
moving_need : (now : Nodes) (from to : Path) (dir new_dir : ℕ) (x : Needed) → In x (moving_needs now from to dir new_dir) → (find_named now dir (name_of from) ≡ Some x.ino) × (x.kind ≡ Hold)
moving_need now from to dir new_dir x i = by (find_named now dir (name_of from)) refl i
  where
    rest : ℕ → Node → List Needed
    rest n y = cond (is_some (find_named now new_dir (name_of to))) [] (cond (eqb dir new_dir) [] (record { ino = n; kind = Hold } ∷ []))

    one : (n : ℕ) (b c : Bool) → In x (cond b [] (cond c [] (record { ino = n; kind = Hold } ∷ []))) → x ≡ record { ino = n; kind = Hold }
    one n true c j = absurd j
    one n false true j = absurd j
    one n false false (inl e) = e
    one n false false (inr none) = absurd none

    at : (n : ℕ) (o : Option Node) → In x (node_needs n o rest) → x ≡ record { ino = n; kind = Hold }
    at n None j = absurd j
    at n (Some y) j = one n (is_some (find_named now new_dir (name_of to))) (eqb dir new_dir) j

    by : (o : Option ℕ) → find_named now dir (name_of from) ≡ o → In x (option_map_or (λ n. node_needs n (node_at now n) rest) o []) → (find_named now dir (name_of from) ≡ Some x.ino) × (x.kind ≡ Hold)
    by None e j = absurd j
    by (Some n) e j = (let is = at n (node_at now n) j in (e ∙ ap (λ (z : Needed). Some z.ino) (sym is), ap (λ (z : Needed). z.kind) is))

-- a walk needs no hold
no_hold : (need : Need) → kind_for need ≡ Hold → ⊥
no_hold NeedsRead e = (let wrong : Read ≡ Hold = e in cc wrong)
no_hold NeedsWrite e = (let wrong : Write ≡ Hold = e in cc wrong)

-- a lease of a kind that is needed doesn't exclude it
not_excluded : (l : Lease) (kind : GrantKind) → kind_lent l ≡ kind → (kind ≡ Hold → ⊥) → Excludes l kind → ⊥
not_excluded (WriteLease f) kind same other ex = other ex
not_excluded (ReadLease f) kind same other ex = ex (sym same)
not_excluded (HoldLease h) kind same other ex = other (sym same)

module _ (call : Call) (from to : Path) (r : IsRename call from to) where
  -- ---- behind the walk into the new directory

  module _ {D : Type 0} (called : D → Ask → Told → D → Type 0) (seen : D → DeskSeen) (d : D) (s : SessionSeen) (dir : ℕ) (o : IsOut (seen d) s from to dir) (d1 : D) (s1 : SessionSeen) (walks : MayWalk (seen d1) s1) where
    abbrev into_ending : WalkEnd → Type 0
    into_ending end = Walked called seen d s (WalksInto (seen d1) s (both_dirs from to) (dir_of to) end) end d1 s1

    abbrev into_these : Nodes → List Needed
    into_these now = across_needs now (seen d).creds (shows_root s) from to dir

    module _ (end : WalkEnd) (w : into_ending end) (nodes : Nodes) (rows : List (Option Row)) (p : ArePossible (seen d1) s1.parcel s1.reads nodes rows) where
      -- what is possible then was so before, and shows the same
      before : ArePossible (seen d) s.parcel s.reads nodes rows
      before =
          possible_then (seen d) (seen d1) s (way_same called seen d s w.more w.last d1 s1 w.way) nodes rows
          (way_more called seen d s w.more w.last d1 s1 w.way nodes rows p)

      same_shown : batch_nodes (seen d1).creds s1.calls nodes ≡ batch_nodes (seen d).creds s.calls nodes
      same_shown =
          ap (λ (k : Creds). batch_nodes k s1.calls nodes) w.way.creds
          ∙ ap (λ (cs : List Done). batch_nodes (seen d).creds cs nodes) (way_calls called seen d s w.more w.last d1 s1 w.way)

      -- what is needed then was needed before
      needed_before : (x : Needed) → In x (across_needs (batch_nodes (seen d1).creds s1.calls nodes) (seen d1).creds (shows_root s) from to dir) → In x (across_needs (batch_nodes (seen d).creds s.calls nodes) (seen d).creds (shows_root s) from to dir)
      needed_before x i =
          subst (λ n. In x (across_needs n (seen d).creds (shows_root s) from to dir)) same_shown
          (subst (λ (k : Creds). In x (across_needs (batch_nodes (seen d1).creds s1.calls nodes) k (shows_root s) from to dir)) w.way.creds i)

    -- what keeps the hold off that a move needs was there before the walk
    to_off : (new_dir : ℕ) → into_ending (At new_dir) → OwnKeepsOff (seen d1) s1 (λ now. moving_needs now from to dir new_dir) → OwnKeepsOff (seen d) s (λ now. across_needs now (seen d).creds (shows_root s) from to dir)
    to_off new_dir w k =
        let now : Nodes = batch_nodes (seen d1).creds s1.calls k.own.nodes in
        let x : Needed = record { ino = k.ino; kind = k.kind } in
        let tree : IsTree now = shown_tree (seen d1) s1 walks k.own.nodes k.own.rows k.own.possible in
        let m = moving_need now from to dir new_dir x k.needed in
        let v = w.shown k.own.nodes k.own.rows k.own.possible in
        let needs : List Needed = into_needs now (seen d1).creds (shows_root s) (both_dirs from to) (dir_of to) in
        let these : map need_of w.more ≡ asked (served_by s) needs = sym (append-nil (map need_of w.more)) ∙ ap (λ l. map need_of w.more ++ l) (sym w.ends.1) ∙ sym v.asks in
        let out : walk_into now (seen d1).creds (both_dirs from to) (dir_of from) ≡ Ok dir = still_out call from to r called seen d s dir o d1 s1 walks (At new_dir) w k.own.nodes k.own.rows k.own.possible in
        elim (busy_took s s1 w.more w.way.took w.way.as_lent k.ino k.kind k.own.busy) [
          | inl old ↦ record {
            ino = k.ino;
            kind = k.kind;
            own = record { busy = old; nodes = k.own.nodes; rows = k.own.rows; possible = before (At new_dir) w k.own.nodes k.own.rows k.own.possible };
            needed = needed_before (At new_dir) w k.own.nodes k.own.rows k.own.possible x
                (In-right x needs (reached_by (walk_into now (seen d1).creds (both_dirs from to) (dir_of to)) (λ q. moving_needs now from to dir q))
                (subst (λ q. In x (reached_by q (λ q. moving_needs now from to dir q))) (sym v.walks) k.needed));
          }
          | inr l ↦ absurd
              (let i : In (need_of l.0) needs = asked_beside-In (served_by s) needs [] (need_of l.0) (subst (λ z. In (need_of l.0) z) these (In-map need_of l.0 w.more l.1)) in
              let on : IsOnWay now (dir_of to) (need_of l.0) = on_way now (seen d1).creds (shows_root s) (both_dirs from to) (dir_of to) (need_of l.0) i in
              let mine : k.ino ≡ (need_of l.0).ino = sym l.2 in
              not_on_way call from to r now tree (seen d1).creds dir (need_of l.0).ino out (m.0 ∙ ap Some mine) on.names on.rest on.at on.whole)
        ]

    lib_is : (end : WalkEnd) (w : into_ending end) → s1.lib ≡ s.lib
    lib_is end w = lib_same (seen d) (seen d1) s s1 w.more w.way.took

    pub to_busy : (new_dir : ℕ) → into_ending (At new_dir) → (end : Outcome) → NeedsBusyAt (seen d1) s1 (λ now. moving_needs now from to dir new_dir) end → NeedsBusyAt (seen d) s (λ now. across_needs now (seen d).creds (shows_root s) from to dir) end
    to_busy new_dir w (Replied reply) b = tt
    to_busy new_dir w NoMemory b = tt
    to_busy new_dir w (Busy holder) b = λ mine. to_off new_dir w (b (mine ∙ sym (lib_is (At new_dir) w)))

    -- the walk itself is kept off
    walk_off : (holder : Holder) → into_ending (IsBusyWalk holder) → holder.lib ≡ s.lib → OwnKeepsOff (seen d) s (λ now. across_needs now (seen d).creds (shows_root s) from to dir)
    walk_off holder w mine =
        let n : ℕ = w.ends.0 in
        let kind : GrantKind = w.ends.1 in
        let x : Needed = record { ino = n; kind = kind } in
        let i : In (record { ask = Grant n kind; told = NotLent (BusyGrant holder) }) w.last = subst (λ l. In (record { ask = Grant n kind; told = NotLent (BusyGrant holder) }) l) (sym w.ends.2) (inl refl) in
        let b = w.way.busy n kind holder i in
        let now : Nodes = batch_nodes (seen d1).creds s1.calls b.0 in
        let v = w.shown b.0 b.1 b.2 in
        let needs : List Needed = into_needs now (seen d1).creds (shows_root s) (both_dirs from to) (dir_of to) in
        let last : In x w.need = subst (λ l. In x l) (sym w.ends.3) (inl refl) in
        let these : In x (asked (served_by s) needs) = subst (λ l. In x l) (sym v.asks.1) (In-left x (map need_of w.more ++ w.need) v.asks.0 (In-right x (map need_of w.more) w.need last)) in
        record {
          ino = n;
          kind = kind;
          own = record { busy = w.way.others n kind holder i mine; nodes = b.0; rows = b.1; possible = before (IsBusyWalk holder) w b.0 b.1 b.2 };
          needed = needed_before (IsBusyWalk holder) w b.0 b.1 b.2 x
              (In-left x needs (reached_by (walk_into now (seen d1).creds (both_dirs from to) (dir_of to)) (λ q. moving_needs now from to dir q)) (asked_beside-In (served_by s) needs [] x these));
        }

    pub to_stop_busy : (end : WalkEnd) → into_ending end → IsStopped end → (result : Result replied.Replied Stop) (s2 : SessionSeen) → StopsBy end result s2
        → NeedsBusyAt (seen d) s (λ now. across_needs now (seen d).creds (shows_root s) from to dir) (try_ends result)
    to_stop_busy (IsBusyWalk holder) w st result s2 by = subst (λ q. NeedsBusyAt (seen d) s into_these (try_ends q)) (sym by) (λ mine. walk_off holder w mine)
    to_stop_busy NoWalkMemory w st result s2 by = subst (λ q. NeedsBusyAt (seen d) s into_these (try_ends q)) (sym by) tt
    to_stop_busy (IsReply reply) w st (Ok a) s2 by = tt
    to_stop_busy (IsReply reply) w st (Err stop) s2 by = subst (λ q. NeedsBusyAt (seen d) s into_these (try_ends (Err q))) (sym by) tt
    to_stop_busy (At n) w st result s2 by = absurd st

  -- ---- behind the walk into the old one, of a session that had nothing

  module _ {D : Type 0} (called : D → Ask → Told → D → Type 0) (seen : D → DeskSeen) (d : D) (s : SessionSeen) (d1 : D) (s1 : SessionSeen) (walks : MayWalk (seen d1) s1) (dir : ℕ)
      (w : Walked called seen d s (WalksInto (seen d1) s (both_dirs from to) (dir_of from) (At dir)) (At dir) d1 s1) (none : HasNothing s) where
    not_off : OwnKeepsOff (seen d1) s1 (λ now. across_needs now (seen d1).creds (shows_root s1) from to dir) → ⊥
    not_off k =
        let now : Nodes = batch_nodes (seen d1).creds s1.calls k.own.nodes in
        let creds : Creds = (seen d1).creds in
        let both : List Path = both_dirs from to in
        let x : Needed = record { ino = k.ino; kind = k.kind } in
        let tree : IsTree now = shown_tree (seen d1) s1 walks k.own.nodes k.own.rows k.own.possible in
        let v = w.shown k.own.nodes k.own.rows k.own.possible in
        let needs : List Needed = into_needs now creds (shows_root s) both (dir_of from) in
        let these : map need_of w.more ≡ asked (served_by s) needs = sym (append-nil (map need_of w.more)) ∙ ap (λ l. map need_of w.more ++ l) (sym w.ends.1) ∙ sym v.asks in
        let alike : needs ≡ into_needs now creds (shows_root s1) both (dir_of from) = into_alike now tree creds both (shows_root s) (shows_root s1) (root_entered now creds both (dir_of from) dir v.walks) (dir_of from) in
        elim (busy_took s s1 w.more w.way.took w.way.as_lent k.ino k.kind k.own.busy) [
          | inl old ↦ nothing_own s k.ino k.kind none old
          | inr l ↦
              let i : In (need_of l.0) needs = asked_beside-In (served_by s) needs [] (need_of l.0) (subst (λ z. In (need_of l.0) z) these (In-map need_of l.0 w.more l.1)) in
              let mine : (need_of l.0).ino ≡ k.ino = l.2 in
              elim (In-cases x (into_needs now creds (shows_root s1) both (dir_of to)) (reached_by (walk_into now creds both (dir_of to)) (λ q. moving_needs now from to dir q)) k.needed) [
                | inl j ↦
                    let a : IsNeedAt now creds (shows_root s1) both (need_of l.0) = into_need now creds (shows_root s1) both (dir_of from) (need_of l.0) (subst (λ z. In (need_of l.0) z) alike i) in
                    let b : IsNeedAt now creds (shows_root s1) both x = into_need now creds (shows_root s1) both (dir_of to) x j in
                    not_excluded l.0 k.kind (need_one now creds (shows_root s1) both tree (need_of l.0) x a b mine) (λ hold. no_hold (need_at both (in_order b.names)) (sym b.kind ∙ hold)) l.3
                | inr j ↦ by_move (walk_into now creds both (dir_of to)) now tree v.walks (need_of l.0) i mine j
              ]
        ]
      where
        by_move : (q : Result ℕ Reply) (now : Nodes) → IsTree now → walk_into now (seen d1).creds (both_dirs from to) (dir_of from) ≡ Ok dir → (y : Needed) → In y (into_needs now (seen d1).creds (shows_root s) (both_dirs from to) (dir_of from))
            → y.ino ≡ k.ino → In (record { ino = k.ino; kind = k.kind }) (reached_by q (λ z. moving_needs now from to dir z)) → ⊥
        by_move (Err reply) now tree e y i mine j = absurd j
        by_move (Ok new_dir) now tree e y i mine j =
            let m = moving_need now from to dir new_dir (record { ino = k.ino; kind = k.kind }) j in
            not_below now (seen d1).creds (shows_root s) (both_dirs from to) tree (dir_of from) dir k.ino (name_of from) e m.0 y i mine

    pub out_others : (end : Outcome) → NeedsBusyAt (seen d1) s1 (λ now. across_needs now (seen d1).creds (shows_root s1) from to dir) end → OthersHold s.lib end
    out_others (Replied reply) b = tt
    out_others NoMemory b = tt
    out_others (Busy holder) b = λ mine. not_off (b (mine ∙ sym (lib_same (seen d) (seen d1) s s1 w.more w.way.took)))
