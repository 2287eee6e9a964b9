-- What a walk into a directory takes lies above the files of the directory, and keeps a hold on none of them off.
use Rattle.trio_calls_dir.proofs.Words.{◌++◌, ◌∙◌, ◌∷◌, ◌≡◌, ArePossible, Ask, At, Busy, BusyAt, DeskSeen, HasNothing, Hold, In, In-map, InAllShown, IsAlike, IsTree, List, MayWalk, Needed, NoMemory, Nodes, OthersHold, Outcome, Path, Replied, SessionSeen, Some, Told, Walked, WalksInto, [], ap, append-nil, asked, asked_beside-In, batch_nodes, dir_of, find_named, inl, inr, into_needs, map, name_of, need_of, served_by, shows_root, subst, sym, tree_stays_through, ℕ}
use Rattle.trio_walk.specs.Walks.{IsOwnGrant}
use Rattle.trio_calls_dir.proofs.OnWay.{not_below}
use Rattle.trio_walk.proofs.OwnBusy.{busy_by, busy_took, nothing_own}

-- ---- the second try

module _ {D : Type 0} (called : D → Ask → Told → D → Type 0) (seen : D → DeskSeen) (d : D) (s : SessionSeen) (path : Path) (d1 : D) (s1 : SessionSeen) (dir : ℕ)
    (w : Walked called seen d s (WalksInto (seen d1) s (dir_of path ∷ []) (dir_of path) (At dir)) (At dir) d1 s1) (walks : MayWalk (seen d1) s1) (s2 : SessionSeen) (near : IsAlike s1 s2)
    (n : ℕ) (found : InAllShown (seen d1) s2 (λ now. find_named now dir (name_of path) ≡ Some n)) (none : HasNothing s) where
  not_own : IsOwnGrant (seen d1) s2 n Hold → ⊥
  not_own k =
      let calls : s2.calls ≡ s1.calls = ap (λ (q : SessionSeen). q.calls) near in
      let p : ArePossible (seen d1) s1.parcel s1.reads k.nodes k.rows = subst (λ (q : SessionSeen). ArePossible (seen d1) q.parcel q.reads k.nodes k.rows) near k.possible in
      let now : Nodes = batch_nodes (seen d1).creds s1.calls k.nodes in
      let f : find_named now dir (name_of path) ≡ Some n = subst (λ cs. find_named (batch_nodes (seen d1).creds cs k.nodes) dir (name_of path) ≡ Some n) calls (found k.nodes k.rows k.possible) in
      let tree : IsTree now = tree_stays_through k.nodes (seen d1).creds s1.calls p.tree (walks.comes k.nodes k.rows p).0 in
      let needs : List Needed = into_needs now (seen d1).creds (shows_root s) (dir_of path ∷ []) (dir_of path) in
      let v = w.shown k.nodes k.rows p in
      let these : map need_of w.more ≡ asked (served_by s) needs = sym (append-nil (map need_of w.more)) ∙ ap (λ l. map need_of w.more ++ l) (sym w.ends.1) ∙ sym v.asks in
      elim (busy_took s s1 w.more w.way.took w.way.as_lent n Hold (busy_by s2 s1 n Hold (ap (λ (q : SessionSeen). q.parcel) near) (ap (λ (q : SessionSeen). q.reads) near) k.busy)) [
        | inl old ↦ nothing_own s n Hold none old
        | inr l ↦
            not_below now (seen d1).creds (shows_root s) (dir_of path ∷ []) tree (dir_of path) dir n (name_of path) v.walks f (need_of l.0)
            (asked_beside-In (served_by s) needs [] (need_of l.0) (subst (λ z. In (need_of l.0) z) these (In-map need_of l.0 w.more l.1)))
            l.2
      ]

  -- the file of a try that had nothing is kept busy by another library
  pub hold_others : s2.lib ≡ s.lib → (end : Outcome) → BusyAt (seen d1) s2 n Hold end → OthersHold s.lib end
  hold_others lib (Replied reply) busy = tt
  hold_others lib NoMemory busy = tt
  hold_others lib (Busy holder) busy = λ mine. not_own (busy (mine ∙ sym lib))
