-- A change of mode with its leases and its call: what happens, what is logged, and that all stays recorded.
use Rattle.trio_ctl.proofs.Words.{if◌then◌else◌, ◌++◌, ◌+◌, ◌==◌, ◌||◌, ◌∙◌, ◌∷◌, ◌≡◌, ◌≤◌, AreLent, Ask, Bool, Call, CallStep, Controller, CtlAnswer, Entry, Err, Happens, HasHistory, Holder, Image, In, IsLentTo, IsLibrary, Kept, LentIsTrue, LibNo, List, Logged, LogsCall, ModeFault, ModeSet, Nodes, None, NotModeSet, Notes, Ok, OpenGrant, Option, Outcome, Outline, Row, SetMode, Shown, Some, State, Step, TellsChmod, [], after_mode_fault, after_mode_refusal, all_back, ap, append_assoc, arith, back_entries, begun_by, busy_holder, creds_of, desk_of, entries_made, false, holder_of, inl, inr, leases_stay_true, length, length-append, length-map, logged, mode_excluding, mode_fault, mode_fault_answer, moded_to, nat_lt, nodes_of, not, option_map, out_of, refl, row_at, rows_say, states_are_trees, subst, sym, true, ℕ}
use Rattle.trio_nodes.specs.declared.answers.ModeFault.TheVariants as fault
use Rattle.trio_nodes.specs.declared.entry.Entry.TheVariants as entry
use Rattle.trio_desk.specs.Call.{call_back}
use Rattle.trio_desk.specs.Ready.{ArePossible}
use Rattle.trio_state.specs.Step as step
use Rattle.trio_laws.specs.history.Recorded.{CallFits}
use Rattle.trio_laws.proofs.session.Chmods.{call_fits}
use Rattle.trio_ctl.specs.Desk.{entries_told}
use Rattle.trio_ctl.specs.Logged.{with_call}
use Rattle.trio_ctl.proofs.Underways.{idle_in, underway_in}
use Rattle.trio_ctl.proofs.LeasesBack.{all_back_is, are_back, backs_kept, backs_nodes}
use Rattle.trio_ctl.proofs.Moding.{plain_fault}
use Rattle.trio_ctl.proofs.DeskSteps.{creds_same}
use Rattle.trio_ctl.proofs.Settling.{read_lent}
use Rattle.trio_ctl.proofs.Recording.{after_told, backs_history}

-- ---- faults

-- a fault is told as it is; want of memory is none
abbrev IsTold : ModeFault → Type 0
IsTold f = mode_fault_answer f ≡ step.NotModeSet f

pub fault_told : (s : State) (lib ino mode : ℕ) (o : Option Row) (f : ModeFault) → mode_fault s lib ino mode o ≡ Some f → mode_fault_answer f ≡ step.NotModeSet f
fault_told s lib ino mode None f e = let t : fault.NotLive ≡ f = cc e in subst (λ f. mode_fault_answer f ≡ step.NotModeSet f) t refl
fault_told s lib ino mode (Some r) f e =
    by (ino == 1 || not ((creds_of s lib).uid == 0 || (creds_of s lib).uid == r.uid)) (nat_lt 511 mode) (mode_excluding s ino r) e
  where
    by : (other big : Bool) (o : Option OpenGrant) → (if other then Some fault.NotOwner else (if big then Some fault.BadMode else option_map (λ g. fault.Busy (holder_of g)) o)) ≡ Some f → IsTold f
    by true big o e = let t : fault.NotOwner ≡ f = cc e in subst IsTold t refl
    by false true o e = let t : fault.BadMode ≡ f = cc e in subst IsTold t refl
    by false false None e = absurd cc
    by false false (Some g) e = let t : fault.Busy (holder_of g) ≡ f = cc e in subst IsTold t refl

-- a fault that names no holder is none of busy
pub plain_told : (f : ModeFault) → busy_holder (Some f) ≡ None → (holder : Holder) → f ≡ fault.Busy holder → ⊥
plain_told f none holder e = let wrong : Some holder ≡ None = ap (λ (x : ModeFault). busy_holder (Some x)) (sym e) ∙ none in cc wrong

pub busy_told : (o : Option ModeFault) (holder : Holder) → busy_holder o ≡ Some holder → o ≡ Some (fault.Busy holder)
busy_told (Some (fault.Busy h)) holder e = ap (λ (x : Holder). Some (fault.Busy x)) cc
busy_told (Some fault.NotLive) holder e = absurd cc
busy_told (Some fault.NotOwner) holder e = absurd cc
busy_told (Some fault.BadMode) holder e = absurd cc
busy_told (Some fault.NoMemory) holder e = absurd cc
busy_told None holder e = absurd cc

-- after such a fault the call stands in the log, and the state has one entry more
pub plain_call : (call : Option Call) (f : ModeFault) → busy_holder (Some f) ≡ None → mode_fault_answer f ≡ step.NotModeSet f → None ≡ call_back call f
plain_call call fault.NotLive none told = refl
plain_call call fault.NotOwner none told = refl
plain_call call fault.BadMode none told = refl
plain_call call (fault.Busy holder) none told = absurd (let wrong : Some holder ≡ None = none in cc wrong)
plain_call call fault.NoMemory none told = absurd (let wrong : step.NoMemory ≡ step.NotModeSet fault.NoMemory = told in cc wrong)

pub plain_refusal : (s : State) (f : ModeFault) → busy_holder (Some f) ≡ None → mode_fault_answer f ≡ step.NotModeSet f → logged s ≡ after_mode_refusal s f
plain_refusal s fault.NotLive none told = refl
plain_refusal s fault.NotOwner none told = refl
plain_refusal s fault.BadMode none told = refl
plain_refusal s (fault.Busy holder) none told = absurd (let wrong : Some holder ≡ None = none in cc wrong)
plain_refusal s fault.NoMemory none told = absurd (let wrong : step.NoMemory ≡ step.NotModeSet fault.NoMemory = told in cc wrong)

-- ---- places in the log

pub moded_room : (lib : LibNo) (back : List Shown) (log places between log' : Logged) (e : Entry) (p p' : ℕ) → places.entries ≡ log.entries → length places.entries + p + 1 ≤ places.room → between.entries ≡ places.entries ++ back_entries lib back → between.room ≡ places.room
    → p' + length back ≡ p → log' ≡ record between { entries = between.entries ++ e ∷ [] } → length log'.entries + p' ≤ log'.room
moded_room lib back log places between log' e p p' kept fits given room less pushed =
    let n : length log'.entries ≡ length between.entries + 1 = ap (λ (l : Logged). length l.entries) pushed ∙ length-append between.entries (e ∷ []) in
    let m : length between.entries ≡ length places.entries + length back = ap (λ (l : List Entry). length l) given ∙ length-append places.entries (back_entries lib back) ∙ ap (λ k. length places.entries + k) (length-map back (λ (f : Shown). entry.Back lib f.ino)) in
    let r : log'.room ≡ between.room = ap (λ (l : Logged). l.room) pushed in
    omega (arith, n, m, r, fits, room, less)

-- ---- what happens

module _ (s : State) (lib : LibNo) (ino mode : ℕ) (back : List Shown) (call : Option Call) where
  abbrev t : State
  t = all_back s lib back

  abbrev ask : Ask
  ask = SetMode ino mode back call

  home_same : t.home ≡ s.home
  home_same = ap (λ (u : State). u.home) (all_back_is s lib back)

  at_home : (o : Option ModeFault) → mode_fault t lib.0 ino mode (row_at s.home ino) ≡ o → mode_fault t lib.0 ino mode (row_at t.home ino) ≡ o
  at_home o e = ap (λ (h : Image). mode_fault t lib.0 ino mode (row_at h ino)) home_same ∙ e

  refused_step : (f : ModeFault) → mode_fault t lib.0 ino mode (row_at s.home ino) ≡ Some f → Step t (step.SetMode lib.0 ino mode) (mode_fault_answer f) (after_mode_fault t f)
  refused_step f e =
      let out = ap (moded_to t ino mode) (at_home (Some f) e) in
      inl (fault_told t lib.0 ino mode (row_at s.home ino) f e ∙ ap (λ (x : Outcome). x.answer) (sym out), ap (λ (x : Outcome). x.after) (sym out))

  refuses : (f : ModeFault) (s' : State) → mode_fault t lib.0 ino mode (row_at s.home ino) ≡ Some f → s' ≡ after_mode_refusal s f → CallStep s lib ask (NotModeSet f) s'
  refuses f s' e same = ((after_mode_fault t f, refused_step f e), same)

  wants : CallStep s lib ask (NotModeSet fault.NoMemory) s
  wants = ((t, inr (refl, refl, refl)), refl)

  moded_step : (t' s' : State) → t' ≡ t → mode_fault t' lib.0 ino mode (row_at t'.home ino) ≡ None → s' ≡ (moded_to t' ino mode None).after → Step t' (step.SetMode lib.0 ino mode) step.ModeSet s'
  moded_step t' s' at e same =
      let out = ap (moded_to t' ino mode) e in
      inl (ap (λ (x : Outcome). x.answer) (sym out), same ∙ ap (λ (x : Outcome). x.after) (sym out))

  pub free_at : (t' : State) → t' ≡ t → mode_fault t lib.0 ino mode (row_at s.home ino) ≡ None → mode_fault t' lib.0 ino mode (row_at t'.home ino) ≡ None
  free_at t' at e = subst (λ (u : State). mode_fault u lib.0 ino mode (row_at u.home ino) ≡ None) (sym at) (at_home None e)

  pub happens_refused : AreLent (out_of s lib) back → (f : ModeFault) (s' : State) → mode_fault t lib.0 ino mode (row_at s.home ino) ≡ Some f → s' ≡ after_mode_refusal s f → Happens s lib ask (NotModeSet f) s'
  happens_refused l f s' e same = record { back = are_back s lib back l; given = tt; is_step = refuses f s' e same; lease = tt }

  pub happens_wants : AreLent (out_of s lib) back → Happens s lib ask (NotModeSet fault.NoMemory) s
  happens_wants l = record { back = are_back s lib back l; given = tt; is_step = wants; lease = tt }

  pub happens_moded : AreLent (out_of s lib) back → (t' s' : State) → t' ≡ t → mode_fault t lib.0 ino mode (row_at s.home ino) ≡ None → s' ≡ (moded_to t' ino mode None).after → Happens s lib ask ModeSet s'
  happens_moded l t' s' at e same = record {
    back = are_back s lib back l;
    given = tt;
    is_step = subst (λ (u : State). Step u (step.SetMode lib.0 ino mode) step.ModeSet s') at (moded_step t' s' at (free_at t' at e) same);
    lease = tt;
  }

  -- ---- what is told beside it fits

  lent_to : AreLent (out_of s lib) back → (f : Shown) → In f back → IsLentTo s lib.0 f
  lent_to l f i = read_lent s lib f (l.are_out f i)

  leases_possible : Kept s → LentIsTrue s → AreLent (out_of s lib) back → ArePossible (desk_of s lib) (record { writes = []; holds = []; pages = []; inodes = [] }) back (nodes_of s) s.home.rows
  leases_possible k lent l =
      let here = leases_stay_true s lib.0 (record { files = back; holds = [] }) k lent (record { files = lent_to l; holds = λ h i. absurd i }) in
      record { tree = states_are_trees s k; agrees = here.agrees; none = λ n i. absurd i; same = rows_say s k; places = here.places }

  fits_at : (u u' : State) (answer : CtlAnswer) → Kept u → u.creds ≡ s.creds → nodes_of u ≡ nodes_of s → Kept s → LentIsTrue s → AreLent (out_of s lib) back → TellsChmod (desk_of s lib) back ino mode call
      → Step u (step.SetMode lib.0 ino mode) answer u' → CallFits u lib.0 ino mode call answer
  fits_at u u' answer ku creds nodes k lent l tells st =
      call_fits u ku lib.0 ino mode (desk_of s lib) back call answer u' st (creds_same u.creds s.creds lib.0 (sym creds)) s.home.rows
      (subst (λ (x : Nodes). ArePossible (desk_of s lib) (record { writes = []; holds = []; pages = []; inodes = [] }) back x s.home.rows) (sym nodes) (leases_possible k lent l)) tells

  -- ---- all stays recorded

  module _ (first : Image) (begun begun' : List (Option Outline)) (promised : ℕ) (log : Logged) (notes : Notes) (h : HasHistory first s begun promised log notes) (idle : begun_by (underway_in s begun) lib.0 ≡ None) (stay : begun' ≡ begun) (k : Kept s) (its : IsLibrary s.creds lib.0)
      (l : AreLent (out_of s lib) back) (tells : TellsChmod (desk_of s lib) back ino mode call) where
    -- after a refusal that makes an entry
    pub refused_history : (f : ModeFault) (s' : State) (promised' : ℕ) (log' : Logged) → ((holder : Holder) → f ≡ fault.Busy holder → ⊥) → mode_fault t lib.0 ino mode (row_at s.home ino) ≡ Some f
        → s' ≡ logged s → log'.entries ≡ log.entries ++ entry.Mode lib ino mode (Err f) call ∷ [] → length log'.entries + promised' ≤ log'.room → HasHistory first s' begun' promised' log' notes
    refused_history f s' promised' log' plain e same pushed room =
        let at = plain_fault s lib ino mode back (row_at s.home ino) f plain e in
        let told = fault_told s lib.0 ino mode (row_at s.home ino) f at in
        let out = ap (moded_to s ino mode) at in
        let st : Step s (step.SetMode lib.0 ino mode) (step.NotModeSet f) s' = inl (ap (λ (x : Outcome). x.answer) (sym out), same ∙ sym (plain_after f plain) ∙ ap (λ (x : Outcome). x.after) (sym out)) in
        after_told first s s' begun begun' promised promised' log log' notes (with_call call) (step.SetMode lib.0 ino mode) (step.NotModeSet f) h k idle stay its tt tt st
        (fits_at s s' (step.NotModeSet f) k refl refl k h.lent l tells st)
        (pushed ∙ ap (λ es. log.entries ++ es) (sym (refused_entries f plain told))) room
      where
        plain_after : (f : ModeFault) → ((holder : Holder) → f ≡ fault.Busy holder → ⊥) → after_mode_fault s f ≡ logged s
        plain_after fault.NotLive plain = refl
        plain_after fault.NotOwner plain = refl
        plain_after fault.BadMode plain = refl
        plain_after (fault.Busy holder) plain = absurd (plain holder refl)
        plain_after fault.NoMemory plain = refl

        refused_entries : (f : ModeFault) → ((holder : Holder) → f ≡ fault.Busy holder → ⊥) → mode_fault_answer f ≡ step.NotModeSet f → entries_made s (with_call call) (step.SetMode lib.0 ino mode) (step.NotModeSet f) ≡ entry.Mode lib ino mode (Err f) call ∷ []
        refused_entries fault.NotLive plain told = refl
        refused_entries fault.NotOwner plain told = refl
        refused_entries fault.BadMode plain told = refl
        refused_entries (fault.Busy holder) plain told = absurd (plain holder refl)
        refused_entries fault.NoMemory plain told = absurd (let wrong : step.NoMemory ≡ step.NotModeSet fault.NoMemory = told in cc wrong)

    -- after the change, with the leases given back before it
    pub moded_history : (t' s' : State) (between log' : Logged) (promised' : ℕ) → t' ≡ t → between.entries ≡ log.entries ++ back_entries lib back → promised' + length back ≡ promised
        → mode_fault t' lib.0 ino mode (row_at t'.home ino) ≡ None → s' ≡ (moded_to t' ino mode None).after → log'.entries ≡ between.entries ++ entry.Mode lib ino mode (Ok tt) call ∷ []
        → length log'.entries + promised' ≤ log'.room → HasHistory first s' begun' promised' log' notes
    moded_history t' s' between log' promised' at given less free same pushed room =
        let b = are_back s lib back l in
        let kt = backs_kept s lib back k b in
        let creds : t.creds ≡ s.creds = ap (λ (u : State). u.creds) (all_back_is s lib back) in
        let st : Step t (step.SetMode lib.0 ino mode) step.ModeSet s' = subst (λ (u : State). Step u (step.SetMode lib.0 ino mode) step.ModeSet s') at (moded_step t' s' at free same) in
        let wide : Logged = record { entries = log.entries ++ back_entries lib back; room = length (log.entries ++ back_entries lib back) + promised' } in
        after_told first t s' begun begun' promised' promised' wide log' notes (with_call call) (step.SetMode lib.0 ino mode) step.ModeSet
        (backs_history first s lib back begun promised promised' log wide notes h idle its b refl less (omega arith)) kt (idle_in s t begun lib.0 idle) stay (subst (λ cs. IsLibrary cs lib.0) (sym creds) its) tt tt st
        (fits_at t s' step.ModeSet kt creds (backs_nodes s lib back k b) k h.lent l tells st)
        (pushed ∙ ap (λ es. es ++ entry.Mode lib ino mode (Ok tt) call ∷ []) given) room

-- ---- what is logged

pub refused_logs : (old new : Controller) (lib : LibNo) (ino mode : ℕ) (back : List Shown) (call : Option Call) (f : ModeFault) (row : Option Row)
    → mode_fault (all_back old.state lib back) lib.0 ino mode row ≡ Some f → ((holder : Holder) → f ≡ fault.Busy holder → ⊥)
    → new.log ≡ old.log ++ entry.Mode lib ino mode (Err f) call ∷ [] → new.first ≡ old.first → new.begun ≡ old.begun → LogsCall old lib (SetMode ino mode back call) (NotModeSet f) new
refused_logs old new lib ino mode back call f row e plain log first begun = record {
  log = log ∙ ap (λ es. old.log ++ es) (by f plain (fault_told (all_back old.state lib back) lib.0 ino mode row f e));
  first = first;
  begun = begun;
}
  where
    by : (f : ModeFault) → ((holder : Holder) → f ≡ fault.Busy holder → ⊥) → mode_fault_answer f ≡ step.NotModeSet f → entry.Mode lib ino mode (Err f) call ∷ [] ≡ entries_told old.state lib (SetMode ino mode back call) (NotModeSet f)
    by fault.NotLive plain told = refl
    by fault.NotOwner plain told = refl
    by fault.BadMode plain told = refl
    by (fault.Busy holder) plain told = absurd (plain holder refl)
    by fault.NoMemory plain told = absurd (let wrong : step.NoMemory ≡ step.NotModeSet fault.NoMemory = told in cc wrong)

pub moded_logs : (old new : Controller) (lib : LibNo) (ino mode : ℕ) (back : List Shown) (call : Option Call)
    → new.log ≡ (old.log ++ back_entries lib back) ++ entry.Mode lib ino mode (Ok tt) call ∷ [] → new.first ≡ old.first → new.begun ≡ old.begun → LogsCall old lib (SetMode ino mode back call) ModeSet new
moded_logs old new lib ino mode back call log first begun = record {
  log = log ∙ append_assoc old.log (back_entries lib back) (entry.Mode lib ino mode (Ok tt) call ∷ []);
  first = first;
  begun = begun;
}
