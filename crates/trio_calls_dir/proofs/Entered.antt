-- A call on one name, from its walk into the directory of its path on.
use Rattle.trio_calls_dir.proofs.Words.{◌++◌, ◌∙◌, ◌∷◌, ◌≡◌, Ask, At, Call, ComesInto, Creds, Denied, DeskSeen, Directory, Goes, InAllShown, IsAlike, IsDir, IsHad, IsOpenDir, IsStopped, Kind, List, MayCall, MayWalk, Needed, Nodes, None, Option, Outcome, Path, Regular, Result, SessionSeen, Shown, Some, Stop, StopsBy, Told, WalkEnd, Walked, WalksInto, [], ap, batch_nodes, cond, dir_needs, dir_of, early_refusal, false, inl, into_needs, is_root, is_some, kind_for, need_at, needs_write, number_made, open_kind, option_map, option_or, reached_by, read_file, refl, removing, shows_root, subst, sym, true, try_ends, walk_into, write_paths, ℕ, Bool}
use Rattle.trio_nodes.specs.declared.grant.GrantKind.TheVariants.{Write as ToWrite}
use Rattle.trio_laws.specs.session.DirCalls.{name_path}
use Rattle.trio_laws.proofs.session.DirCalls.{name_refused_by_walk}
use Rattle.trio_calls_dir.specs.declared.replies.Replied as replied
use Rattle.trio_calls_dir.proofs.Into.{entered_at, into_goes, into_stops}

-- ---- calls on one name

-- the call is on this path's name alone, and the directory of the path is written
pub record IsOneName (call : Call) (path : Path) : Type 0 where
  pub on : name_path call ≡ Some path
  pub early : early_refusal call ≡ None
  pub writes : write_paths call ≡ dir_of path ∷ []

pub removing_one : (of_dirs : Bool) (path : Path) → is_root path ≡ false → IsOneName (removing of_dirs path) path
removing_one true path e = record { on = refl; early = ap (λ b. cond b (Some Denied) None) e; writes = refl }
removing_one false path e = record { on = refl; early = ap (λ b. cond b (Some IsDir) None) e; writes = refl }

-- a directory that is had for writing is open
pub open_had : (s : SessionSeen) (dir : ℕ) → IsHad s dir ToWrite → IsOpenDir s dir
open_had s dir h = record { directory = by (open_kind s dir) refl; index = h.indexed }
  where
    by : (o : Option Kind) → open_kind s dir ≡ o → open_kind s dir ≡ Some Directory
    by (Some k) e =
        let same : Some k ≡ Some Directory = sym (ap (λ o. option_or o (option_map (λ (f : Shown). f.kind) (read_file s dir))) e) ∙ h.directory in
        e ∙ same
    by None e = absurd (let wrong : false ≡ true = sym (ap is_some e) ∙ h.served in cc wrong)

pub open_into : (s : SessionSeen) (path : Path) (dir : ℕ) → IsHad s dir (kind_for (need_at (path ∷ []) path)) → IsOpenDir s dir
open_into s path dir h = open_had s dir (subst (λ n. IsHad s dir (kind_for n)) (needs_write (path ∷ []) path (inl refl)) h)

-- the walk with the paths that are meant
pub walked_as : {D : Type 0} (called : D → Ask → Told → D → Type 0) (seen : D → DeskSeen) (d : D) (s : SessionSeen) (d1 : D) (s1 : SessionSeen) (p q dir : Path) → p ≡ dir → q ≡ dir → (end : WalkEnd)
    → Walked called seen d s (WalksInto (seen d1) s (p ∷ []) q end) end d1 s1 → Walked called seen d s (WalksInto (seen d1) s (dir ∷ []) dir end) end d1 s1
walked_as called seen d s d1 s1 p q dir ep eq end w =
    subst (λ (x : Path). Walked called seen d s (WalksInto (seen d1) s (dir ∷ []) x end) end d1 s1) eq
    (subst (λ (x : Path). Walked called seen d s (WalksInto (seen d1) s (x ∷ []) q end) end d1 s1) ep w)

pub had_as : (s : SessionSeen) (p q dir : Path) → p ≡ dir → q ≡ dir → (n : ℕ) → IsHad s n (kind_for (need_at (p ∷ []) q)) → IsOpenDir s n
had_as s p q dir ep eq n h =
    open_into s dir n (subst (λ (x : Path). IsHad s n (kind_for (need_at (dir ∷ []) x))) eq (subst (λ (x : Path). IsHad s n (kind_for (need_at (x ∷ []) q))) ep h))

pub open_alike : (s s' : SessionSeen) (dir k : ℕ) → s' ≡ record s { finds = k } → IsOpenDir s dir → IsOpenDir s' dir
open_alike s s' dir k e o = subst (λ (q : SessionSeen). IsOpenDir q dir) (sym e) (record { directory = o.directory; index = o.index })

module _ {D : Type 0} (called : D → Ask → Told → D → Type 0) (seen : D → DeskSeen) (d : D) (s : SessionSeen) (call : Call) (path : Path) (one : IsOneName call path) (may : MayCall (seen d) s) (d1 : D) (s1 : SessionSeen)
    (F : Nodes → ℕ → List Needed)
    (needs_are : (now : Nodes) (creds : Creds) → dir_needs now creds (shows_root s) call
    ≡ into_needs now creds (shows_root s) (dir_of path ∷ []) (dir_of path) ++ reached_by (walk_into now creds (dir_of path ∷ []) (dir_of path)) (F now)) where
  abbrev ending : WalkEnd → Type 0
  ending end = Walked called seen d s (WalksInto (seen d1) s (dir_of path ∷ []) (dir_of path) end) end d1 s1

  abbrev needs : Nodes → List Needed
  needs now = dir_needs now (seen d1).creds (shows_root s) call

  are : InAllShown (seen d1) s1 (λ now. needs now ≡ into_needs now (seen d1).creds (shows_root s) (dir_of path ∷ []) (dir_of path) ++ reached_by (walk_into now (seen d1).creds (dir_of path ∷ []) (dir_of path)) (F now))
  are nodes rows p = needs_are (batch_nodes (seen d1).creds s1.calls nodes) (seen d1).creds

  -- ---- where the walk has entered the directory

  module _ (dir : ℕ) (w : ending (At dir)) (walks : MayWalk (seen d1) s1) (s2 : SessionSeen) (near : IsAlike s1 s2) where
    pub comes_into : InAllShown (seen d1) s2 (λ now. ComesInto now (seen d1).creds call path dir)
    comes_into nodes rows p = record {
      on = one.on;
      early = one.early;
      into =
          ap (λ ws. walk_into (batch_nodes (seen d1).creds s2.calls nodes) (seen d1).creds ws (dir_of path)) one.writes
          ∙ entered_at called seen d s call (dir_of path ∷ []) (dir_of path) may d1 s1 needs F are dir w walks s2 near nodes rows p;
    }

    -- what is done in the directory goes with the walk
    pub one_goes : (end : Outcome) (number : ℕ) (d' : D) (s' : SessionSeen) → Goes called seen d1 s2 call (λ now. F now dir) end number d' s'
        → Goes called seen d s call (λ now. dir_needs now (seen d').creds (shows_root s) call) end number d' s'
    one_goes end number d' s' goes =
        subst (λ (k : Creds). Goes called seen d s call (λ now. dir_needs now k (shows_root s) call) end number d' s') (sym goes.passes.same.creds)
        (into_goes called seen d s call (dir_of path ∷ []) (dir_of path) may d1 s1 needs F are dir w walks s2 near end number d' s' goes)

  -- ---- where it has come to no file

  pub one_stops : (end : WalkEnd) (w : ending end) → MayWalk (seen d1) s1 → (s2 : SessionSeen) → s2 ≡ record s1 { room = s2.room } → IsStopped end → (result : Result replied.Replied Stop) → StopsBy end result s2
      → Goes called seen d s call (λ now. dir_needs now (seen d1).creds (shows_root s) call) (try_ends result) (number_made result) d1 s2
  one_stops end w walks s2 kept st result by =
      into_stops called seen d s call (dir_of path ∷ []) (dir_of path) may d1 s1 needs F are end w walks s2 kept st
      (λ reply nodes rows p walked.
      let now : Nodes = batch_nodes (seen d1).creds s1.calls nodes in
      name_refused_by_walk (seen d1) (record { call = call; reply = reply; made = 0 }) now path one.on one.early
      (ap (λ ws. walk_into now (seen d1).creds ws (dir_of path)) one.writes ∙ walked) refl)
      result by
