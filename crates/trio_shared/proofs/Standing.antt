-- The grants that stand after a history that leaves a state are the open ones, each with its entry.
use Rattle.trio_shared.proofs.Words.{if◌then◌else◌, ◌&&◌, ◌++◌, ◌+◌, ◌==◌, ◌∙◌, ◌∷◌, ◌≡◌, Allot, Ask, Back, BadMode, Batch, Bool, Busy, BusyMode, Creds, Entry, Grant, GrantFault, GrantKind, In, In-map, IsTrue, Leaves, LibNo, List, Mode, ModeFault, NoParent, None, NotLent, NotLive, NotModeSet, NotOwner, OpenGrant, Option, Origin, Raw, SetMode, Shown, Some, State, Step, TellsHolding, Told, [], all_back, ap, arith, cases_Bool, creds_of, eqb-true, filter, inl, inr, length, map, option_map, refl, slice_get, subst, sym, true, ℕ}
use Rattle.std.proofs.Common.{◌||◌, false, not, nat_lt, is_some, append_assoc, length-append}
use Rattle.std.specs.Option.{IsSomeAnd}
use Rattle.std.proofs.lemmas.Bool.{and_parts}
use Rattle.trio_rights.specs.Row.{Row}
use Rattle.trio_lists.proofs.Filters.{filter-In}
use Rattle.trio_lists.proofs.Members.{In-cases}
use Rattle.trio_layout.specs.Image.{row_at}
use Rattle.trio_desk.specs.Call.{Grant as AskGrant}
use Rattle.trio_nodes.specs.declared.answers.ModeFault.TheVariants.{NotLive as NotLiveFile}
use Rattle.trio_nodes.specs.declared.entry.GrantAnswer.TheVariants.{Granted, Refused as NotGranted}
use Rattle.trio_nodes.specs.declared.grant.Holder.{Holder}
use Rattle.trio_nodes.specs.GrantKinds.{excludes_kind}
use Rattle.trio_nodes.specs.Legal.{Past, LegalFrom, past_after}
use Rattle.trio_nodes.specs.Standing.{Standing, grants_after, is_given}
use Rattle.trio_state.specs.Grants.{denied_by, denied_or, excluding, grant_fault, holder_of, lacks_parent, told_children}
use Rattle.trio_state.specs.Step.{Comes, granted_to, mode_excluding, mode_fault, mode_outcome, moded_to}
use Rattle.trio_state.specs.Step as step
use Rattle.trio_laws.specs.history.Stands.{past_of, standing_of}
use Rattle.trio_ctl.specs.Desk.{CallStep}
use Rattle.trio_ctl.specs.inner.Modes.{is_back}
use Rattle.trio_ctl.proofs.LeasesBack.{all_back_is}
use Rattle.trio_shared.specs.Standing.{Holds, HoldsAround, IsOrLists, RefusesFirst, mode_refusal, standing, standing_from}

-- ---- what stands is what is open

grants_along : (libs : List Creds) (p : Past) (es : List Entry) (last : Past) → LegalFrom libs p es last → last.grants ≡ standing_from p.grants p.entries es
grants_along libs p [] last l = ap (λ (q : Past). q.grants) l
grants_along libs p (e ∷ es) last l = grants_along libs (past_after libs p e) es last l.1

open_stand : (first : Origin) (log : List Entry) (s : State) → Leaves first log s → map standing_of s.open_grants ≡ standing log
open_stand first log s l = grants_along s.creds _ log (past_of s) l.all.legal

-- ---- each with its entry

-- the entry of a grant that stands
abbrev HasEntry : List Entry → Standing → Type 0
HasEntry log g = (children : ℕ) × (slice_get log g.entry ≡ Some (Grant (record { 0 = g.lib }) g.ino g.kind (Granted children)))

entry_there : (done : List Entry) (e : Entry) (es : List Entry) → slice_get (done ++ e ∷ es) (length done) ≡ Some e
entry_there [] e es = refl
entry_there (d ∷ done) e es = entry_there done e es

kept_entry : (log : List Entry) (grants : List Standing) (p : Standing → Bool) → ((g : Standing) → In g grants → HasEntry log g) → (g : Standing) → In g (filter p grants) → HasEntry log g
kept_entry log grants p all g i = all g (filter-In p g grants i).0

after_entry : (done : List Entry) (e : Entry) (es : List Entry) (grants : List Standing) → ((g : Standing) → In g grants → HasEntry (done ++ e ∷ es) g) → (g : Standing) → In g (grants_after grants (length done) e) → HasEntry (done ++ e ∷ es) g
after_entry done (Grant lib ino kind (Granted children)) es grants all g i =
    elim (In-cases g grants (record { lib = lib.0; ino = ino; kind = kind; entry = length done } ∷ []) i) [
      | inl old ↦ all g old
      | inr new ↦
          elim new [
            | inl is ↦ subst (HasEntry (done ++ Grant lib ino kind (Granted children) ∷ es)) (sym is) (children, entry_there done (Grant lib ino kind (Granted children)) es)
            | inr none ↦ absurd none
          ]
    ]
after_entry done (Grant lib ino kind (NotGranted fault)) es grants all g i = all g i
after_entry done (Allot lib pages inodes answer) es grants all g i = all g i
after_entry done (Back lib ino) es grants all g i = kept_entry (done ++ Back lib ino ∷ es) grants (λ g. not (g.lib == lib.0 && g.ino == ino)) all g i
after_entry done (Raw lib verdict files bundle) es grants all g i = kept_entry (done ++ Raw lib verdict files bundle ∷ es) grants (λ g. not (g.lib == lib.0 && is_given files g.ino)) all g i
after_entry done (Batch lib calls handed) es grants all g i = kept_entry (done ++ Batch lib calls handed ∷ es) grants (λ g. not (g.lib == lib.0)) all g i
after_entry done (Mode lib ino mode answer call) es grants all g i = all g i

entries_from : (done es : List Entry) (n : ℕ) (grants : List Standing) → n ≡ length done → ((g : Standing) → In g grants → HasEntry (done ++ es) g) → (g : Standing) → In g (standing_from grants n es) → HasEntry (done ++ es) g
entries_from done [] n grants at all g i = all g i
entries_from done (e ∷ es) n grants at all g i =
    let more : (done ++ e ∷ []) ++ es ≡ done ++ e ∷ es = append_assoc done (e ∷ []) es in
    let here : (g : Standing) → In g (grants_after grants n e) → HasEntry (done ++ e ∷ es) g =
    subst (λ m. (g : Standing) → In g (grants_after grants m e) → HasEntry (done ++ e ∷ es) g) (sym at) (after_entry done e es grants all) in
    subst (λ log. HasEntry log g) more
    (entries_from (done ++ e ∷ []) es (n + 1) (grants_after grants n e) (omega (arith, at, length-append done (e ∷ [])))
    (λ g i. subst (λ log. HasEntry log g) (sym more) (here g i)) g i)

stand_entered : (log : List Entry) (g : Standing) → In g (standing log) → HasEntry log g
stand_entered log g i = entries_from [] log 0 [] refl (λ g i. absurd i) g i

-- the holder of an open grant
holds_open : (first : Origin) (log : List Entry) (s : State) (g : OpenGrant) → Leaves first log s → In g s.open_grants → Holds log (holder_of g) g.ino
holds_open first log s g l i =
    let there : In (standing_of g) (standing log) = subst (In (standing_of g)) (open_stand first log s l) (In-map standing_of g s.open_grants i) in
    let entry = stand_entered log (standing_of g) there in
    record { children = entry.0; entry = entry.1; stands = there }

-- ---- what Busy names

module _ (first : Origin) (log : List Entry) (s : State) (left : Leaves first log s) where
  abbrev Around : (OpenGrant → Type 0) → Holder → Type 0
  Around P holder = (g : OpenGrant) × In g s.open_grants × P g × (holder_of g ≡ holder)

  first_of : {Fault : Type 0} (busy : Holder → Fault) → ((a b : Holder) → busy a ≡ busy b → a ≡ b) → (p : OpenGrant → Bool) (holder : Holder)
      → option_map (λ (g : OpenGrant). busy (holder_of g)) (slice_get (filter p s.open_grants) 0) ≡ Some (busy holder) → Around (λ g. p g ≡ true) holder
  first_of busy same p holder e = by (filter p s.open_grants) (λ g i. filter-In p g s.open_grants i) e
    where
      by : (xs : List OpenGrant) → ((g : OpenGrant) → In g xs → In g s.open_grants × (p g ≡ true)) → option_map (λ (g : OpenGrant). busy (holder_of g)) (slice_get xs 0) ≡ Some (busy holder) → Around (λ g. p g ≡ true) holder
      by [] all e = absurd cc
      by (g ∷ xs) all e =
          let h = all g (inl refl) in
          let is : Some (busy (holder_of g)) ≡ Some (busy holder) = e in
          (g, h.0, h.1, same (holder_of g) holder (cc is))

  same_busy : (a b : Holder) → Busy a ≡ Busy b → a ≡ b
  same_busy a b e = cc e

  same_busy_mode : (a b : Holder) → BusyMode a ≡ BusyMode b → a ≡ b
  same_busy_mode a b e = cc e

  -- a grant that is refused with Busy
  busy_grant : (lib ino : ℕ) (kind : GrantKind) (holder : Holder) → grant_fault s lib ino kind ≡ Some (Busy holder)
      → Around (λ g. (g.ino == ino && excludes_kind kind g.kind (g.lib == lib)) ≡ true) holder
  busy_grant lib ino kind holder e = by (not (is_some (row_at s.home ino))) (denied_by s lib ino kind) (lacks_parent s lib ino kind) e
    where
      by : (dead : Bool) (d : Option ℕ) (lacks : Bool) → (if dead then Some NotLive else denied_or d (if lacks then Some NoParent else option_map (λ (g : OpenGrant). Busy (holder_of g)) (slice_get (excluding s lib ino kind) 0))) ≡ Some (Busy holder)
          → Around (λ g. (g.ino == ino && excludes_kind kind g.kind (g.lib == lib)) ≡ true) holder
      by true d lacks e = absurd cc
      by false (Some n) lacks e = absurd cc
      by false None true e = absurd cc
      by false None false e = first_of (λ h. Busy h) same_busy (λ (g : OpenGrant). g.ino == ino && excludes_kind kind g.kind (g.lib == lib)) holder e

  grant_holding : (lib : LibNo) (ino : ℕ) (kind : GrantKind) (holder : Holder) (s' : State) → Step s (step.Grant lib.0 ino kind) (step.NotGranted (Busy holder)) s'
      → Holds log holder ino × IsTrue (excludes_kind kind holder.kind (holder.lib.0 == lib.0)) × RefusesFirst first log (λ t. grant_fault t lib.0 ino kind) (Busy holder)
  grant_holding lib ino kind holder s' (inr none) = (let wrong : step.NotGranted (Busy holder) ≡ step.NoMemory = none.1 in absurd (cc wrong))
  grant_holding lib ino kind holder s' (inl d) = by (grant_fault s lib.0 ino kind) refl (row_at s.home ino) d
    where
      named : grant_fault s lib.0 ino kind ≡ Some (Busy holder) → Around (λ g. (g.ino == ino && excludes_kind kind g.kind (g.lib == lib.0)) ≡ true) holder
          → Holds log holder ino × IsTrue (excludes_kind kind holder.kind (holder.lib.0 == lib.0)) × RefusesFirst first log (λ t. grant_fault t lib.0 ino kind) (Busy holder)
      named busy a =
          let g = a.0 in
          let p = and_parts (g.ino == ino) (excludes_kind kind g.kind (g.lib == lib.0)) a.2 in (
            subst (λ n. Holds log holder n) (eqb-true g.ino ino p.0) (subst (λ (h : Holder). Holds log h g.ino) a.3 (holds_open first log s g left a.1)),
            subst (λ (h : Holder). IsTrue (excludes_kind kind h.kind (h.lib.0 == lib.0))) a.3 p.1,
            record { state = s; left = left; is_first = busy },
          )

      by : (fault : Option GrantFault) → grant_fault s lib.0 ino kind ≡ fault → (row : Option Row) → Comes (granted_to s lib.0 ino kind fault row) (step.NotGranted (Busy holder)) s'
          → Holds log holder ino × IsTrue (excludes_kind kind holder.kind (holder.lib.0 == lib.0)) × RefusesFirst first log (λ t. grant_fault t lib.0 ino kind) (Busy holder)
      by None f None c = let wrong : step.NotGranted (Busy holder) ≡ step.Done = c.0 in absurd (cc wrong)
      by None f (Some r) c = let wrong : step.NotGranted (Busy holder) ≡ step.Granted (told_children s.home ino kind) = c.0 in absurd (cc wrong)
      by (Some fault) f row c =
          let is : step.NotGranted (Busy holder) ≡ step.NotGranted fault = c.0 in
          let same : Busy holder ≡ fault = cc is in
          let busy = f ∙ ap (λ (x : GrantFault). Some x) (sym same) in
          named busy (busy_grant lib.0 ino kind holder busy)

  -- a change of mode that is refused with Busy, from a state in which fewer grants are open
  busy_mode : (t : State) → ((g : OpenGrant) → In g t.open_grants → In g s.open_grants) → (lib ino mode : ℕ) (holder : Holder) → step.NotModeSet (BusyMode holder) ≡ (mode_outcome t lib ino mode).answer
      → (g : OpenGrant) × In g s.open_grants × IsOrLists t g.ino ino × (holder_of g ≡ holder)
  busy_mode t fewer lib ino mode holder e = by_row (row_at t.home ino) refl e
    where
      by_row : (o : Option Row) → row_at t.home ino ≡ o → step.NotModeSet (BusyMode holder) ≡ (moded_to t ino mode (mode_fault t lib ino mode o)).answer → (g : OpenGrant) × In g s.open_grants × IsOrLists t g.ino ino × (holder_of g ≡ holder)
      by_row None at e = let wrong : step.NotModeSet (BusyMode holder) ≡ step.NotModeSet NotLiveFile = e in absurd (cc wrong)
      by_row (Some r) at e = by (ino == 1 || not ((creds_of t lib).uid == 0 || (creds_of t lib).uid == r.uid)) (nat_lt 511 mode) e
        where
          on : (g : OpenGrant) → (g.ino == ino || g.ino == r.parent) ≡ true → IsOrLists t g.ino ino
          on g p =
              elim (cases_Bool (g.ino == ino)) [
                | inl here ↦ inl (eqb-true g.ino ino here)
                | inr other ↦ inr (subst (λ (o : Option Row). IsSomeAnd o (λ r. g.ino ≡ r.parent)) (sym at) (eqb-true g.ino r.parent (subst (λ (b : Bool). (b || g.ino == r.parent) ≡ true) other p)))
              ]

          first' : (xs : List OpenGrant) → ((g : OpenGrant) → In g xs → In g t.open_grants × ((g.ino == ino || g.ino == r.parent) ≡ true)) → step.NotModeSet (BusyMode holder) ≡ (moded_to t ino mode (option_map (λ (g : OpenGrant). BusyMode (holder_of g)) (slice_get xs 0))).answer
              → (g : OpenGrant) × In g s.open_grants × IsOrLists t g.ino ino × (holder_of g ≡ holder)
          first' [] all e = let wrong : step.NotModeSet (BusyMode holder) ≡ step.ModeSet = e in absurd (cc wrong)
          first' (g ∷ xs) all e =
              let is : step.NotModeSet (BusyMode holder) ≡ step.NotModeSet (BusyMode (holder_of g)) = e in
              let h = all g (inl refl) in
              (g, fewer g h.0, on g h.1, sym (cc is))

          by : (other big : Bool) → step.NotModeSet (BusyMode holder) ≡ (moded_to t ino mode (if other then Some NotOwner else (if big then Some BadMode else option_map (λ (g : OpenGrant). BusyMode (holder_of g)) (mode_excluding t ino r)))).answer
              → (g : OpenGrant) × In g s.open_grants × IsOrLists t g.ino ino × (holder_of g ≡ holder)
          by true big e = let wrong : step.NotModeSet (BusyMode holder) ≡ step.NotModeSet NotOwner = e in absurd (cc wrong)
          by false true e = let wrong : step.NotModeSet (BusyMode holder) ≡ step.NotModeSet BadMode = e in absurd (cc wrong)
          by false false e = first' (filter (λ (g : OpenGrant). g.ino == ino || g.ino == r.parent) t.open_grants) (λ g i. filter-In (λ (g : OpenGrant). g.ino == ino || g.ino == r.parent) g t.open_grants i) e

  busy_first : (t : State) (ino mode : ℕ) (o : Option ModeFault) (holder : Holder) → step.NotModeSet (BusyMode holder) ≡ (moded_to t ino mode o).answer → o ≡ Some (BusyMode holder)
  busy_first t ino mode None holder e = let wrong : step.NotModeSet (BusyMode holder) ≡ step.ModeSet = e in absurd (cc wrong)
  busy_first t ino mode (Some fault) holder e =
      let is : step.NotModeSet (BusyMode holder) ≡ step.NotModeSet fault = e in
      let same : BusyMode holder ≡ fault = cc is in
      ap (λ (f : ModeFault). Some f) (sym same)

  mode_holding : (lib : LibNo) (ino mode : ℕ) (back : List Shown) (holder : Holder) (t : State) → Step (all_back s lib back) (step.SetMode lib.0 ino mode) (step.NotModeSet (BusyMode holder)) t
      → HoldsAround first log holder ino × RefusesFirst first log (mode_refusal lib ino mode back) (BusyMode holder)
  mode_holding lib ino mode back holder t (inr none) = (let wrong : step.NotModeSet (BusyMode holder) ≡ step.NoMemory = none.1 in absurd (cc wrong))
  mode_holding lib ino mode back holder t (inl d) =
      let less : State = record s { open_grants = filter (λ g. not (is_back lib.0 back g)) s.open_grants; entries = s.entries + length back } in
      let fewer : (g : OpenGrant) → In g (all_back s lib back).open_grants → In g s.open_grants =
      subst (λ (u : State). (g : OpenGrant) → In g u.open_grants → In g s.open_grants) (sym (all_back_is s lib back)) (λ g i. (filter-In (λ (g : OpenGrant). not (is_back lib.0 back g)) g s.open_grants i).0) in
      let b = busy_mode (all_back s lib back) fewer lib.0 ino mode holder d.0 in (
        record {
          state = s;
          file = b.0.ino;
          left = left;
          around = subst (λ (u : State). IsOrLists u b.0.ino ino) (all_back_is s lib back) b.2;
          holds = subst (λ (h : Holder). Holds log h b.0.ino) b.3 (holds_open first log s b.0 left b.1);
        },
        record { state = s; left = left; is_first = busy_first (all_back s lib back) ino mode (mode_refusal lib ino mode back s) holder d.0 },
      )

  pub tells_holding : (lib : LibNo) (ask : Ask) (told : Told) (s' : State) → CallStep s lib ask told s' → TellsHolding first log lib ask told
  tells_holding lib (AskGrant ino kind) (NotLent (Busy holder)) s' st = grant_holding lib ino kind holder s' st
  tells_holding lib (SetMode ino mode back call) (NotModeSet (BusyMode holder)) s' st = mode_holding lib ino mode back holder st.0.0 st.0.1
  tells_holding lib ask told s' st = tt
