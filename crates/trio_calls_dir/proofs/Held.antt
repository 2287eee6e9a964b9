-- A file is taken: what is asked for it, and what stays as it was.
use Rattle.trio_calls_dir.proofs.Words.{◌++◌, ◌∙◌, ◌∷◌, ◌≡◌, Ask, Bool, Busy, Call, DeskSeen, Err, Goes, GrantKind, Hold, HoldLease, HoldParts, Holder, In, In-map, InAllShown, IsAlike, IsBusy, IsBusyWalk, IsListed, IsOpenDir, LacksMemory, Lease, List, MayCall, Met, Needed, NoMemory, NoWalkMemory, Node, Nodes, Ok, Outcome, Parcel, Place, ReadLease, SessionSeen, Some, Told, Took, Way, Went, WriteLease, [], ap, append-nil, asked, asks_lent, batch_nodes, chain_in, cond, entry_in, entry_shown, every_number, false, find_named, find_named-Child, grant_ask, inl, inr, is_some, kind_lent, kind_shown, lent_call, map, need_of, one_need, open_kind, option_and_then, option_map, option_map_or, place_shown, read_file, refl, served_by, serves, slot_bytes, slot_of, subst, sym, true, with_lease, with_leases, ℕ}
use mathlib.Core.Path.{fun_ext}
use Rattle.std.specs.Prelude.{slice_get}
use Rattle.trio_auxdir.specs.Slots.{slots_of}
use Rattle.trio_lease.specs.Shown.{page_at}
use Rattle.trio_desk.specs.Calls as desk_calls
use Rattle.trio_session.specs.Layout.{page_in}
use Rattle.trio_session.specs.Seen.{dir_pages, place_of}
use Rattle.trio_calls_dir.proofs.Ends.{stop_goes}
use Rattle.trio_calls_dir.proofs.Then.{all_then, goes_on}
use Rattle.trio_calls_dir.proofs.Walkable.{way_may}
use Rattle.trio_walk.proofs.Entering.{asked-one}
use Rattle.trio_walk.proofs.Ways.{way_calls, way_more, way_same, way_went}

-- a directory that is open lists the file, so it may be held
pub may_be_held : (desk : DeskSeen) (s : SessionSeen) (dir : ℕ) (name : List ℕ) (n : ℕ) → IsOpenDir s dir → InAllShown desk s (λ now. find_named now dir name ≡ Some n) → IsListed desk s n
may_be_held desk s dir name n opens named = record {
  directory = dir;
  opens = opens.directory;
  lists = λ nodes rows p.
      let c = find_named-Child (batch_nodes desk.creds s.calls nodes) dir name n (named nodes rows p) in
      ap (option_map (λ (x : Node). x.parent)) c.at ∙ ap Some c.parent;
}

-- ---- holds change no look at a directory

pages_held : (b : Parcel) (hs : List HoldParts) (n : ℕ) → page_in (record b { holds = hs }) n ≡ page_in b n
unfolding page_in
pages_held b hs n = refl

-- leases that are holds add holds alone
holds_alone : (more : List Lease) (s : SessionSeen) → ((l : Lease) → In l more → kind_lent l ≡ Hold) → (hs : List HoldParts) × (with_leases s more ≡ record s { parcel = record s.parcel { holds = hs } })
holds_alone [] s all = (s.parcel.holds, refl)
holds_alone (HoldLease h ∷ more) s all =
    let r = holds_alone more (with_lease s (HoldLease h)) (λ l i. all l (inr i)) in (r.0, r.1)
holds_alone (WriteLease f ∷ more) s all = absurd (let wrong = all (WriteLease f) (inl refl) in cc wrong)
holds_alone (ReadLease f ∷ more) s all = absurd (let wrong = all (ReadLease f) (inl refl) in cc wrong)

-- the call needs this grant on this file, and nothing else
module _ {D : Type 0} (called : D → Ask → Told → D → Type 0) (seen : D → DeskSeen) (d : D) (s : SessionSeen) (call : Call) (file : Met) (kind : GrantKind) (may : MayCall (seen d) s) (needs : Nodes → List Needed)
    (needs_one : InAllShown (seen d) s (λ now. needs now ≡ record { ino = file.ino; kind = kind } ∷ [])) where
  asked_needs : InAllShown (seen d) s (λ now. asked (served_by s) (needs now) ≡ one_need s file.ino kind)
  asked_needs nodes rows p = ap (asked (served_by s)) (needs_one nodes rows p) ∙ asked-one s file.ino kind

  module _ (d1 : D) (s1 : SessionSeen) where
    -- what is known of the nodes that are shown
    pub still : (more : List Lease) (last : List desk_calls.Call) → Way called seen d s more last d1 s1 → (P : Nodes → Type 0) → InAllShown (seen d) s P → InAllShown (seen d1) s1 P
    still more last way P h =
        all_then (seen d) (seen d1) s s1 P (way_same called seen d s more last d1 s1 way) (way_more called seen d s more last d1 s1 way) (way_calls called seen d s more last d1 s1 way) h

    -- ---- where it isn't had

    pub busy_goes : (holder : Holder) → Took called seen d s file kind (Err (IsBusyWalk holder)) d1 s1
        → Goes called seen d s call needs (Busy holder) 0 d1 s1
    busy_goes holder t =
        let need : List Needed = record { ino = file.ino; kind = kind } ∷ [] in
        stop_goes called seen d s call needs needs may d1 s1 s1
        (λ these now. Unit {0}) (IsBusyWalk holder)
        (record { more = t.more; last = t.last; need = need; way = t.way; ends = (file.ino, kind, t.taken.1, refl); shown = λ nodes rows p. tt }) t.may refl tt
        (λ nodes rows p. (
          [],
          still t.more t.last t.way (λ now. asked (served_by s) (needs now) ≡ one_need s file.ino kind) asked_needs nodes rows p
              ∙ t.taken.2 ∙ ap (λ (m : List Lease). (map need_of m ++ (record { ino = file.ino; kind = kind } ∷ [])) ++ []) (sym t.taken.0),
        ))
        (λ nodes rows p. ([], sym (append-nil (needs (batch_nodes (seen d1).creds s1.calls nodes)))))
        (λ reply e. absurd (cc e)) (Err (IsBusy holder)) refl

    pub short_goes : Took called seen d s file kind (Err NoWalkMemory) d1 s1
        → Goes called seen d s call needs NoMemory 0 d1 s1
    short_goes t =
        stop_goes called seen d s call needs needs may d1 s1 s1
        (λ these now. Unit {0}) NoWalkMemory
        (record { more = t.more; last = t.last; need = t.taken.0; way = t.way; ends = t.taken.2; shown = λ nodes rows p. tt }) t.may refl tt
        (λ nodes rows p. (
          t.taken.1,
          still t.more t.last t.way (λ now. asked (served_by s) (needs now) ≡ one_need s file.ino kind) asked_needs nodes rows p ∙ t.taken.3,
        ))
        (λ nodes rows p. ([], sym (append-nil (needs (batch_nodes (seen d1).creds s1.calls nodes)))))
        (λ reply e. absurd (cc e)) (Err LacksMemory) refl

    -- ---- where it is had

    module _ (t : Took called seen d s file kind (Ok true) d1 s1) where
      pub went : Went called seen d s (map lent_call t.more) [] d1 s1
      went = subst (λ l. Went called seen d s (map lent_call t.more) l d1 s1) t.taken.0 (way_went called seen d s t.more t.last d1 s1 t.way)

      -- what goes on then goes with it
      pub held_goes : (end : Outcome) (number : ℕ) (d' : D) (s' : SessionSeen) → Goes called seen d1 s1 call (λ now. []) end number d' s'
          → Goes called seen d s call needs end number d' s'
      held_goes end number d' s' goes =
          goes_on called seen d d1 d' s s1 s' call (map lent_call t.more) went end number needs (λ now. [])
          (λ nodes rows p.
          ap (map grant_ask)
          (still t.more t.last t.way (λ now. asked (served_by s) (needs now) ≡ one_need s file.ino kind) asked_needs nodes rows p ∙ t.taken.1)
          ∙ asks_lent t.more ∙ sym (append-nil (map (λ (c : desk_calls.Call). c.ask) (map lent_call t.more))))
          goes

      pub over : (P : Nodes → Type 0) → InAllShown (seen d) s P → InAllShown (seen d1) s1 P
      over P h = still t.more t.last t.way P h

      pub may_held : MayCall (seen d1) s1
      may_held = way_may called seen d s t.more t.last d1 s1 may t.way t.may

-- a hold leaves all that a look at a directory shows
module _ {D : Type 0} (called : D → Ask → Told → D → Type 0) (seen : D → DeskSeen) (d : D) (s : SessionSeen) (file : Met) (d1 : D) (s1 : SessionSeen) (t : Took called seen d s file Hold (Ok true) d1 s1) where
  each_hold : (l : Lease) → In l t.more → kind_lent l ≡ Hold
  each_hold l i = by (serves s file.ino Hold) (subst (λ z. In (need_of l) z) (sym t.taken.1) (In-map need_of l t.more i))
    where
      by : (b : Bool) → In (need_of l) (cond b [] (record { ino = file.ino; kind = Hold } ∷ [])) → kind_lent l ≡ Hold
      by true j = absurd j
      by false (inl e) = ap (λ (n : Needed). n.kind) e
      by false (inr none) = absurd none

  pub held : (hs : List HoldParts) × (with_leases s t.more ≡ record s { parcel = record s.parcel { holds = hs } })
  held = holds_alone t.more s each_hold

  abbrev x : SessionSeen
  x = record s { parcel = record s.parcel { holds = held.0 } }

  pub alike : IsAlike x s1
  alike = subst (λ (q : SessionSeen). IsAlike q s1) held.1 t.way.took.same

  pub place_held : (dir : ℕ) (name : List ℕ) → place_shown s1 dir name ≡ place_shown s dir name
  place_held dir name =
      ap (λ (q : SessionSeen). place_shown q dir name) alike
      ∙ ap (λ (f : ℕ → List ℕ). place_of (kind_shown s dir) (slots_of every_number (cond (is_some (open_kind s dir)) (map f (chain_in s dir).blocks) (option_map_or dir_pages (read_file s dir) []))) name)
      (fun_ext (pages_held s.parcel held.0))

  pub entry_held : (dir : ℕ) (place : Place) → entry_shown s1 dir place ≡ entry_shown s dir place
  entry_held dir place =
      ap (λ (q : SessionSeen). entry_shown q dir place) alike
      ∙ ap (λ (f : ℕ → List ℕ).
      option_and_then (λ bytes. entry_in (slot_of every_number (slot_bytes place.slot bytes)))
      (cond (is_some (open_kind s dir)) (option_map f (slice_get (chain_in s dir).blocks place.block)) (option_and_then (λ g. page_at g.blocks place.block) (read_file s dir))))
      (fun_ext (pages_held s.parcel held.0))

  -- an open directory is open still
  pub open_held : (dir : ℕ) → IsOpenDir s dir → IsOpenDir s1 dir
  open_held dir o = record { directory = ap (λ (q : SessionSeen). open_kind q dir) alike ∙ o.directory; index = t.way.took.indexed dir o.index }
