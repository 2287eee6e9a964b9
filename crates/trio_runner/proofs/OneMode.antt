-- Two tries of alike sessions of one change of mode come to the same.
use Rattle.trio_runner.proofs.Words.{◌++◌, ◌+◌, ◌∙◌, ◌∷◌, ◌≡◌, ◌≢◌, Applied, AreBack, ArePossible, Ask, Begun, BreaksOff, Busy, BusyMode, Call, Calls, Chmod, ChmodCalled, ChmodTried, Comes, Creds, DeskSeen, EndsAs, EndsBroken, EndsHandedIn, EndsModed, HandsIn, Happens, Holder, IsAlike, IsDone, IsReplied, Kept, Known, LeavesBy, LibNo, List, Mode, ModeSet, NoMemory, NoModeMemory, Nodes, None, NotModeSet, NotSettled, Noted, Notes, Option, Outcome, Parcel, Path, Replied, Reply, SameAnswer, SessionSeen, SetMode, SetsMode, Settle, Settled, Shown, Some, State, Told, TriedSo, Unbegun, [], all_back, ap, apart, append-nil, arith, asked, bundle_of, creds_of, emptied, false≢true, given_back, grant_ask, hand_in_ask, happens_creds, inl, inr, is_done, known, lent_to, map, mode_ask, nodes_of, others_see, out_of, refl, same_event_same_answer, sees, served_by, shows_root, step_kept, subst, sym, took_alike, ℕ}
use Rattle.trio_nodes.specs.declared.call.Call as call
use Rattle.trio_nodes.specs.declared.call.Done as done
use Rattle.trio_nodes.specs.declared.call.Reply.TheVariants.{Denied}
use Rattle.trio_desk.specs.Ready.{Moded}
use Rattle.trio_state.specs.Step as step
use Rattle.trio_ctl.proofs.LeasesBack.{backs_kept}
use Rattle.trio_walk.specs.Needs.{chmod_needs}
use Rattle.trio_calls_dir.specs.Chmods.{AsksSo, ComesSo, Refuses}
use Rattle.trio_runner.proofs.Batches.{calls_parted, one_called}
use Rattle.trio_runner.proofs.OneCall.{MayEnd, OneEnd, OneTry, alike_both, may_some, one_call, one_settle, settled_has}
use Rattle.trio_runner.proofs.OneTry.{BothReplied, Carried, EndsSame, Final, PartOf, SameEnd, final_of, one_going, tried_carried}
use Rattle.trio_runner.proofs.SameNodes.{HasOut, StandsTrue, moves_true, nodes_known, possible_here}
use Rattle.trio_runner.proofs.Sessions.{IsAsked, asked_plain}
use Rattle.trio_walk.proofs.Then.{possible_then}

-- ---- the grants

-- how the grants of a try end: by Busy, where it is broken off; else as where a check refuses the call
abbrev pub stage : Comes → Outcome → Outcome
stage BreaksOff end = end
stage comes end = Replied Denied

pub stage_final : (all : SessionSeen) (path : Path) (mode : Mode) (comes : Comes) (ungiven last : List Call) (end : Outcome) → end ≢ NoMemory → EndsAs all path mode comes ungiven last end → Final (stage comes end) ungiven
stage_final all path mode BreaksOff ungiven last (Replied answer) some e = absurd e.1
stage_final all path mode BreaksOff ungiven last (Busy holder) some e = final_of (Busy holder) ungiven (λ w. cc w) e.1
stage_final all path mode BreaksOff ungiven last NoMemory some e = absurd (some refl)
stage_final all path mode (HandsIn reply) ungiven last end some e =
    final_of (Replied Denied) ungiven (λ w. cc w) (elim e.0 [ inl none ↦ inl none | inr denied ↦ inr (denied.1, denied.2, denied.3) ])
stage_final all path mode (SetsMode ino) ungiven last end some e = final_of (Replied Denied) ungiven (λ w. cc w) (inl e.0)

stage_part : (all : SessionSeen) (path : Path) (mode : Mode) (comes : Comes) (ungiven last : List Call) (end : Outcome) (these wanted : List Ask) → EndsAs all path mode comes ungiven last end → AsksSo comes these wanted → PartOf (stage comes end) these wanted
stage_part all path mode BreaksOff ungiven last (Replied answer) these wanted e a = absurd e.1
stage_part all path mode BreaksOff ungiven last (Busy holder) these wanted e a = record { rest = a.0; are = a.1; whole = λ r w. absurd (cc w) }
stage_part all path mode BreaksOff ungiven last NoMemory these wanted e a = record { rest = a.0; are = a.1; whole = λ r w. absurd (cc w) }
stage_part all path mode (HandsIn reply) ungiven last end these wanted e a = record { rest = []; are = a ∙ sym (append-nil these); whole = λ r w. refl }
stage_part all path mode (SetsMode ino) ungiven last end these wanted e a = record { rest = []; are = a ∙ sym (append-nil these); whole = λ r w. refl }

-- a try that is broken off isn't replied
pub broken_off : (end end' : Outcome) (ungiven : List Call) (answer : Reply) → SameEnd end end' → EndsBroken end ungiven → end' ≡ Replied answer → ⊥
broken_off end end' ungiven answer (EndsSame o) b e = subst (λ o. EndsBroken o ungiven) e b
broken_off end end' ungiven answer (BothReplied p q i j) b e = b

pub broken_same : (end end' : Outcome) (ungiven : List Call) → SameEnd end end' → EndsBroken end ungiven → end ≡ end'
broken_same end end' ungiven (EndsSame o) b = refl
broken_same end end' ungiven (BothReplied p q i j) b = absurd b

pub same_back : (end end' : Outcome) → SameEnd end end' → SameEnd end' end
same_back end end' (EndsSame o) = EndsSame o
same_back end end' (BothReplied p q i j) = BothReplied q p j i

-- ---- leases that are given back

backs_known : (lib : LibNo) (back : List Shown) (s t : State) → Kept s → Kept t → known s ≡ known t → AreBack s lib back → AreBack t lib back → known (all_back s lib back) ≡ known (all_back t lib back)
backs_known lib [] s t hs ht same a b = same
backs_known lib (f ∷ fs) s t hs ht same a b =
    let s1 : State = given_back s lib.0 f.ino in
    let t1 : State = given_back t lib.0 f.ino in
    let r = same_event_same_answer s t (step.Back lib.0 f.ino) step.Done step.Done s1 t1 hs ht same (inl (refl, refl)) (inl (refl, refl)) (λ w. cc w) (λ w. cc w) in
    backs_known lib fs s1 t1 (step_kept s s1 (step.Back lib.0 f.ino) step.Done hs a.0 (inl (refl, refl))) (step_kept t t1 (step.Back lib.0 f.ino) step.Done ht b.0 (inl (refl, refl))) r.1 a.1 b.1

-- ---- the last call

-- two last calls end their tries the same
record OneLast (end end' : Outcome) (s t : State) : Type 0 where
  end_same : end ≡ end'
  known_same : known s ≡ known t

module _ (lib : LibNo) (s t : State) (hs : Kept s) (ht : Kept t) (same : known s ≡ known t) (s' t' : State) where
  -- two settles of the same
  settle_last : (parcel : Parcel) (back : List Shown) (cs : List done.Done) (reply : Reply) (a b : Told) (end end' : Outcome) → end ≢ NoMemory → end' ≢ NoMemory → EndsHandedIn reply a end → EndsHandedIn reply b end'
      → Happens s lib (Settle parcel back cs) a s' → Happens t lib (Settle parcel back cs) b t' → OneLast end end' s' t'
  settle_last parcel back cs reply NotSettled b end end' some some' ea eb x y = absurd (some ea)
  settle_last parcel back cs reply Settled NotSettled end end' some some' ea eb x y = absurd (some' eb)
  settle_last parcel back cs reply Settled Settled end end' some some' ea eb x y = record {
    end_same = ea ∙ sym eb;
    known_same =
        (same_event_same_answer (all_back s lib back) (all_back t lib back) (step.Settle lib.0 (bundle_of parcel)) step.Settled step.Settled s' t' (backs_kept s lib back hs x.back) (backs_kept t lib back ht y.back)
        (backs_known lib back s t hs ht same x.back y.back) x.is_step y.is_step (λ w. cc w) (λ w. cc w)).1;
  }
  settle_last parcel back cs reply Settled b end end' some some' ea eb x y = absurd eb
  settle_last parcel back cs reply a b end end' some some' ea eb x y = absurd ea

  module _ (ino mode : ℕ) (back : List Shown) where
    -- from where the leases are back
    pub modes_same : (a b : step.CtlAnswer) (s1 t1 : State) → AreBack s lib back → AreBack t lib back → step.Step (all_back s lib back) (step.SetMode lib.0 ino mode) a s1 → step.Step (all_back t lib back) (step.SetMode lib.0 ino mode) b t1
        → a ≢ step.NoMemory → b ≢ step.NoMemory → SameAnswer a b × (known s1 ≡ known t1)
    modes_same a b s1 t1 xs ys x y some some' =
        same_event_same_answer (all_back s lib back) (all_back t lib back) (step.SetMode lib.0 ino mode) a b s1 t1 (backs_kept s lib back hs xs) (backs_kept t lib back ht ys) (backs_known lib back s t hs ht same xs ys) x y some some'

    not_both : (holder : Holder) → SameAnswer step.ModeSet (step.NotModeSet (BusyMode holder)) → ⊥
    not_both holder (inl e) = cc e
    not_both holder (inr r) = (let wrong : None ≡ Some r.0 = r.1 in cc wrong)

    not_back : (holder : Holder) → SameAnswer (step.NotModeSet (BusyMode holder)) step.ModeSet → ⊥
    not_back holder (inl e) = cc e
    not_back holder (inr r) = (let wrong : None ≡ Some r.0 = r.1 in cc wrong)

    pub holders_same : (h k : Holder) → SameAnswer (step.NotModeSet (BusyMode h)) (step.NotModeSet (BusyMode k)) → h ≡ k
    holders_same h k (inl e) = cc e
    holders_same h k (inr r) = (let wrong : None ≡ Some r.0 = r.1 in absurd (cc wrong))

    -- two changes of one mode
    mode_last : (k : Option call.Call) (a b : Told) (end end' : Outcome) → end ≢ NoMemory → end' ≢ NoMemory → EndsModed a end → EndsModed b end' → Happens s lib (SetMode ino mode back k) a s' → Happens t lib (SetMode ino mode back k) b t' → OneLast end end' s' t'
    mode_last k (NotModeSet NoModeMemory) b end end' some some' ea eb x y = absurd (some ea)
    mode_last k a (NotModeSet NoModeMemory) end end' some some' ea eb x y = absurd (some' eb)
    mode_last k ModeSet ModeSet end end' some some' ea eb x y = record {
      end_same = ea ∙ sym eb;
      known_same = (modes_same step.ModeSet step.ModeSet s' t' x.back y.back x.is_step y.is_step (λ w. cc w) (λ w. cc w)).1;
    }
    mode_last k ModeSet (NotModeSet (BusyMode h)) end end' some some' ea eb x y =
        absurd (not_both h (modes_same step.ModeSet (step.NotModeSet (BusyMode h)) s' y.is_step.0.0 x.back y.back x.is_step y.is_step.0.1 (λ w. cc w) (λ w. cc w)).0)
    mode_last k (NotModeSet (BusyMode h)) ModeSet end end' some some' ea eb x y =
        absurd (not_back h (modes_same (step.NotModeSet (BusyMode h)) step.ModeSet x.is_step.0.0 t' x.back y.back x.is_step.0.1 y.is_step (λ w. cc w) (λ w. cc w)).0)
    mode_last k (NotModeSet (BusyMode h)) (NotModeSet (BusyMode j)) end end' some some' ea eb x y =
        let r = modes_same (step.NotModeSet (BusyMode h)) (step.NotModeSet (BusyMode j)) x.is_step.0.0 y.is_step.0.0 x.back y.back x.is_step.0.1 y.is_step.0.1 (λ w. cc w) (λ w. cc w) in
        record { end_same = ea ∙ ap Busy (holders_same h j r.0) ∙ sym eb; known_same = ap known x.is_step.1 ∙ same ∙ sym (ap known y.is_step.1) }
    mode_last k ModeSet b end end' some some' ea eb x y = absurd eb
    mode_last k (NotModeSet (BusyMode h)) b end end' some some' ea eb x y = absurd eb
    mode_last k a b end end' some some' ea eb x y = absurd ea

-- ---- what is left

emptied_alike : (z w : SessionSeen) → w ≡ record z { finds = w.finds; room = w.room } → IsAlike z w
emptied_alike z w e = e ∙ sym (ap (λ (q : SessionSeen). record z { indexed = q.indexed; finds = w.finds; room = w.room }) e)

pub left_alike : (end : Outcome) (all all' x' y' : SessionSeen) → IsAlike all all' → LeavesBy all end x' → LeavesBy all' end y' → IsAlike x' y'
left_alike (Replied answer) all all' x' y' like l m =
    alike_both (emptied all) (emptied all') x' y' (ap emptied like) (emptied_alike (emptied all) x' l) (emptied_alike (emptied all') y' m)
left_alike (Busy holder) all all' x' y' like l m = alike_both all all' x' y' like l m
left_alike NoMemory all all' x' y' like l m = alike_both all all' x' y' like l m

-- ---- how far a try comes

-- the number of the file of a change of mode
abbrev moded_ino : Option Moded → ℕ
moded_ino (Some m) = m.ino
moded_ino None = 0

-- ---- what a last call keeps

-- what leases show is true then, and what is seen of the desk, but for what is out, is as before
record After (lib : LibNo) (m d' : Noted) : Type 0 where
  true : StandsTrue d'.state
  creds : d'.state.creds ≡ m.state.creds
  sizes : (sees lib d').sizes ≡ (sees lib m).sizes
  root : (sees lib d').root ≡ (sees lib m).root

module _ (lib : LibNo) where
  one_after : (m d' : Noted) (ask : Ask) (told : Told) → IsAsked ask told → StandsTrue m.state → Notes lib m ask told d' → After lib m d'
  one_after m d' ask told is h n =
      let other : LibNo = record { 0 = lib.0 + 1 } in
      let seen = others_see m.state lib other ask told d'.state h.stands.kept h.stands.whole (λ e. let wrong : lib.0 + 1 ≡ lib.0 = e in omega (arith, wrong)) n.happens in
      record {
        true = moves_true lib m.state (apart ask told) n.more d'.state (asked_plain m.state lib ask told d'.state is n.happens) h n.are_moves;
        creds = happens_creds m.state lib ask told d'.state n.happens;
        sizes = ap (λ (k : DeskSeen). k.sizes) seen;
        root = ap (λ (k : DeskSeen). k.root) seen;
      }

  none_after : (m d' : Noted) → d' ≡ m → StandsTrue m.state → After lib m d'
  none_after m d' e h = subst (After lib m) (sym e) (record { true = h; creds = refl; sizes = refl; root = refl })

  handed_asked : (parcel : Parcel) (back : List Shown) (cs : List done.Done) (reply : Reply) (told : Told) (end : Outcome) → end ≢ NoMemory → EndsHandedIn reply told end → IsAsked (Settle parcel back cs) told
  handed_asked parcel back cs reply Settled end some e = tt
  handed_asked parcel back cs reply NotSettled end some e = absurd (some e)
  handed_asked parcel back cs reply told end some e = absurd e

  moded_asked : (ino mode : ℕ) (back : List Shown) (k : Option call.Call) (told : Told) (end : Outcome) → end ≢ NoMemory → EndsModed told end → IsAsked (SetMode ino mode back k) told
  moded_asked ino mode back k ModeSet end some e = tt
  moded_asked ino mode back k (NotModeSet (BusyMode holder)) end some e = tt
  moded_asked ino mode back k (NotModeSet NoModeMemory) end some e = absurd (some e)
  moded_asked ino mode back k told end some e = absurd e

  module _ (path : Path) (mode : Mode) where
    last_after : (all : SessionSeen) (comes : Comes) (ungiven last : List Call) (end : Outcome) (m d' : Noted) → end ≢ NoMemory → EndsAs all path mode comes ungiven last end → StandsTrue m.state → Calls (Notes lib) m last d' → After lib m d'
    last_after all BreaksOff ungiven last end m d' some e h made = none_after m d' (subst (λ (l : List Call). Calls (Notes lib) m l d') e.0 made) h
    last_after all (HandsIn reply) ungiven last end m d' some e h made =
        one_after m d' (hand_in_ask all (Chmod path mode) reply) e.1 (handed_asked all.parcel all.reads (record { call = Chmod path mode; reply = reply; made = 0 } ∷ []) reply e.1 end some e.3) h (one_called (Notes lib) last (hand_in_ask all (Chmod path mode) reply) e.1 m d' e.2 made)
    last_after all (SetsMode ino) ungiven last end m d' some e h made =
        one_after m d' (mode_ask all ino mode (Chmod path mode)) e.1 (moded_asked ino mode.0 all.reads (Some (Chmod path mode)) e.1 end some e.3) h (one_called (Notes lib) last (mode_ask all ino mode (Chmod path mode)) e.1 m d' e.2 made)

    -- ---- two last calls

    -- a reply that is handed in isn't that of a call that is done
    not_done : (nodes : Nodes) (creds : Creds) (reply : Reply) (ino : ℕ) → Refuses (HandsIn reply) → ComesSo nodes creds path mode (HandsIn reply) → ComesSo nodes creds path mode (SetsMode ino) → ⊥
    not_done nodes creds reply ino refuses a b =
        let is : reply ≡ IsReplied IsDone = sym (ap (λ (x : Applied). x.reply) a) ∙ b.0 in
        false≢true (sym refuses ∙ ap is_done is)

    module _ (nodes : Nodes) (creds : Creds) (all all' : SessionSeen) (like : IsAlike all all') (ungiven ungiven' last last' : List Call) (end end' : Outcome) (some : end ≢ NoMemory) (some' : end' ≢ NoMemory)
        (m n d' e' : Noted) (hm : StandsTrue m.state) (hn : StandsTrue n.state) (same : known m.state ≡ known n.state) (made : Calls (Notes lib) m last d') (made' : Calls (Notes lib) n last' e') where
      last_same : (c c' : Comes) → SameEnd (stage c end) (stage c' end') → Refuses c → Refuses c' → ComesSo nodes creds path mode c → ComesSo nodes creds path mode c' → EndsAs all path mode c ungiven last end → EndsAs all' path mode c' ungiven' last' end' → OneLast end end' d'.state e'.state
      last_same BreaksOff BreaksOff ends r r' so so' a b =
          let x : d' ≡ m = subst (λ (l : List Call). Calls (Notes lib) m l d') a.0 made in
          let y : e' ≡ n = subst (λ (l : List Call). Calls (Notes lib) n l e') b.0 made' in
          record { end_same = broken_same end end' ungiven ends a.1; known_same = ap (λ (z : Noted). known z.state) x ∙ same ∙ sym (ap (λ (z : Noted). known z.state) y) }
      last_same BreaksOff (HandsIn reply) ends r r' so so' a b = absurd (broken_off end (Replied Denied) ungiven Denied ends a.1 refl)
      last_same BreaksOff (SetsMode ino) ends r r' so so' a b = absurd (broken_off end (Replied Denied) ungiven Denied ends a.1 refl)
      last_same (HandsIn reply) BreaksOff ends r r' so so' a b = absurd (broken_off end' (Replied Denied) ungiven' Denied (same_back (Replied Denied) end' ends) b.1 refl)
      last_same (SetsMode ino) BreaksOff ends r r' so so' a b = absurd (broken_off end' (Replied Denied) ungiven' Denied (same_back (Replied Denied) end' ends) b.1 refl)
      last_same (HandsIn reply) (SetsMode ino) ends r r' so so' a b = absurd (not_done nodes creds reply ino r so so')
      last_same (SetsMode ino) (HandsIn reply) ends r r' so so' a b = absurd (not_done nodes creds reply ino r' so' so)
      last_same (HandsIn reply) (HandsIn reply') ends r r' so so' a b =
          let k : call.Call = Chmod path mode in
          let replies : reply' ≡ reply = sym (ap (λ (x : Applied). x.reply) so') ∙ ap (λ (x : Applied). x.reply) so in
          let asks : hand_in_ask all' k reply' ≡ hand_in_ask all k reply = ap (hand_in_ask all' k) replies ∙ ap (λ (q : SessionSeen). hand_in_ask q k reply) like in
          let x = one_called (Notes lib) last (hand_in_ask all k reply) a.1 m d' a.2 made in
          let y = one_called (Notes lib) last' (hand_in_ask all' k reply') b.1 n e' b.2 made' in
          settle_last lib m.state n.state hm.stands.kept hn.stands.kept same d'.state e'.state all.parcel all.reads (record { call = k; reply = reply; made = 0 } ∷ []) reply a.1 b.1 end end' some some' a.3
          (subst (λ z. EndsHandedIn z b.1 end') replies b.3) x.happens (subst (λ z. Happens n.state lib z b.1 e'.state) asks y.happens)
      last_same (SetsMode ino) (SetsMode ino') ends r r' so so' a b =
          let k : call.Call = Chmod path mode in
          let inos : ino' ≡ ino = ap moded_ino (sym so'.1 ∙ so.1) in
          let asks : mode_ask all' ino' mode k ≡ mode_ask all ino mode k = ap (λ i. mode_ask all' i mode k) inos ∙ ap (λ (q : SessionSeen). mode_ask q ino mode k) like in
          let x = one_called (Notes lib) last (mode_ask all ino mode k) a.1 m d' a.2 made in
          let y = one_called (Notes lib) last' (mode_ask all' ino' mode k) b.1 n e' b.2 made' in
          mode_last lib m.state n.state hm.stands.kept hn.stands.kept same d'.state e'.state ino mode.0 all.reads (Some k) a.1 b.1 end end' some some' a.3 b.3 x.happens (subst (λ z. Happens n.state lib z b.1 e'.state) asks y.happens)

    -- ---- two tries

    -- what one try shows, in the nodes before it
    record Shows (d d' : Noted) (x x' : SessionSeen) (end : Outcome) (t : ChmodTried (Notes lib) (sees lib) path mode d x end d' x') : Type 0 where
      middle : Noted
      first : Calls (Notes lib) d (t.given ++ t.ungiven) middle
      last : Calls (Notes lib) middle t.last d'
      final : Final (stage t.comes end) t.ungiven
      carried : Carried lib d middle (lent_to x t.given)
      true : StandsTrue d'.state
      so : TriedSo (creds_of d.state lib.0) x path mode t.comes (map (λ (c : Call). c.ask) (t.given ++ t.ungiven)) (nodes_of d.state)

    shows : (d d' : Noted) (x x' : SessionSeen) (end : Outcome) (t : ChmodTried (Notes lib) (sees lib) path mode d x end d' x') → StandsTrue d.state → HasOut (out_of d.state lib) x → end ≢ NoMemory → Shows d d' x x' end t
    shows d d' x x' end t h has some =
        let all : SessionSeen = lent_to x t.given in
        let p = calls_parted (Notes lib) (t.given ++ t.ungiven) t.last d d' t.made in
        let m : Noted = p.0 in
        let final = stage_final all path mode t.comes t.ungiven t.last end some t.ends in
        let c = tried_carried lib t.given t.ungiven d m x (stage t.comes end) t.each final h has p.1 in
        let a = last_after all t.comes t.ungiven t.last end m d' some t.ends c.true p.2 in
        let cs : creds_of d'.state lib.0 ≡ creds_of m.state lib.0 = ap (λ (l : List Creds). creds_of (record m.state { creds = l }) lib.0) a.creds in
        let ds : creds_of m.state lib.0 ≡ creds_of d.state lib.0 = ap (λ (l : List Creds). creds_of (record d.state { creds = l }) lib.0) c.creds in
        let here : ArePossible (sees lib m) all.parcel all.reads (nodes_of d.state) m.state.home.rows =
        subst (λ (ns : Nodes). ArePossible (sees lib m) all.parcel all.reads ns m.state.home.rows) c.nodes (possible_here m.state lib all c.true c.has) in
        let then = possible_then (sees lib d') (sees lib m) all (record { lib = refl; creds = sym cs; sizes = sym a.sizes; root = sym a.root }) (nodes_of d.state) m.state.home.rows here in
        record {
          middle = m;
          first = p.1;
          last = p.2;
          final = final;
          carried = c;
          true = a.true;
          so = subst (λ (k : Creds). TriedSo k x path mode t.comes (map (λ (c : Call). c.ask) (t.given ++ t.ungiven)) (nodes_of d.state)) (cs ∙ ds) (t.shown (nodes_of d.state) m.state.home.rows then);
        }

    one_mode : OneTry lib (ChmodTried (Notes lib) (sees lib) path mode)
    one_mode d e d' e' x y x' y' end end' hd he same like has has' may may' t u =
        let some = may_some lib end d' x' may in
        let some' = may_some lib end' e' y' may' in
        let a = shows d d' x x' end t hd has some in
        let b = shows e e' y y' end' u he has' some' in
        let creds : Creds = creds_of d.state lib.0 in
        let cs : creds_of e.state lib.0 ≡ creds_of d.state lib.0 = ap (λ (q : Known). creds_of (record d.state { creds = q.creds }) lib.0) (sym same) in
        let ns : nodes_of e.state ≡ nodes_of d.state = nodes_known e.state d.state (sym same) in
        let these : List Ask = map (λ (c : Call). c.ask) (u.given ++ u.ungiven) in
        let Now : Creds → Nodes → SessionSeen → Type 0 = λ c n z. TriedSo c z path mode u.comes these n in
        let so1 : Now creds (nodes_of e.state) y = subst (λ (c : Creds). Now c (nodes_of e.state) y) cs b.so in
        let so2 : Now creds (nodes_of d.state) y = subst (λ (n : Nodes). Now creds n y) ns so1 in
        let wants : SessionSeen → List Ask = λ z. map grant_ask (asked (served_by z) (chmod_needs (nodes_of d.state) creds (shows_root z) path)) in
        let asks : AsksSo u.comes these (wants x) = subst (AsksSo u.comes these) (ap wants like) so2.asks in
        let all : SessionSeen = lent_to x t.given in
        let p = stage_part all path mode t.comes t.ungiven t.last end (map (λ (c : Call). c.ask) (t.given ++ t.ungiven)) (wants x) t.ends a.so.asks in
        let q = stage_part (lent_to y u.given) path mode u.comes u.ungiven u.last end' these (wants x) u.ends asks in
        let going = one_going lib t.given u.given t.ungiven u.ungiven d e a.middle b.middle (stage t.comes end) (stage u.comes end') p.rest q.rest hd.stands he.stands same t.each u.each a.final b.final p.whole q.whole (sym p.are ∙ q.are) a.first b.first in
        let all' : SessionSeen = lent_to y u.given in
        let near : IsAlike all all' = subst (λ (g : List Call). IsAlike all (lent_to y g)) going.given_same (took_alike x y (map (λ (c : Call). c.told) t.given) like) in
        let r = last_same (nodes_of d.state) creds all all' near t.ungiven u.ungiven t.last u.last end end' some some' a.middle b.middle d' e' a.carried.true b.carried.true going.known_same a.last b.last
        t.comes u.comes going.ends t.refuses u.refuses a.so.so so2.so t.ends u.ends in
        record {
          end_same = r.end_same;
          alike = left_alike end all all' x' y' near t.leaves (subst (λ (o : Outcome). LeavesBy all' o y') (sym r.end_same) u.leaves);
          known_same = r.known_same;
          true = a.true;
          true' = b.true;
        }

    -- ---- two calls

    pub one_chmod : (d e d' e' : Noted) (x y x' y' : SessionSeen) (end end' : Outcome) → StandsTrue d.state → StandsTrue e.state → known d.state ≡ known e.state → IsAlike x y → MayEnd lib end d' x' → MayEnd lib end' e' y'
        → ChmodCalled (Notes lib) (sees lib) d x path mode end d' x' → ChmodCalled (Notes lib) (sees lib) e y path mode end' e' y' → OneEnd end end' d' e' x' y'
    one_chmod d e d' e' x y x' y' end end' hd he same like may may' (Unbegun none u) b = absurd (may_some lib end d' x' may none)
    one_chmod d e d' e' x y x' y' end end' hd he same like may may' a (Unbegun none u) = absurd (may_some lib end' e' y' may' none)
    one_chmod d e d' e' x y x' y' end end' hd he same like may may' (Begun d1 x1 t a) (Begun e1 y1 u b) =
        let s = one_settle lib d e d1 e1 x y x1 y1 hd he same like t u in
        one_call lib (ChmodTried (Notes lib) (sees lib) path mode) one_mode d1 e1 d' e' x1 y1 x' y' end end' s.true s.true' s.known_same s.alike (settled_has lib d d1 x x1 d1.state t) (settled_has lib e e1 y y1 e1.state u) may may' a b
