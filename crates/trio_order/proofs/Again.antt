-- From two states of which the same is known, an event comes to the same.
use Rattle.trio_order.proofs.Words.{◌+◌, ◌∙◌, ◌≡◌, ◌⊎◌, Allot, Back, BadMode, Beside, Bool, Bundle, BusyMode, CtlAnswer, Done, Entry, Event, Grant, GrantKind, Known, ModeFault, NoFile, NoModeMemory, None, NotOwner, Option, Outcome, Release, SetMode, Settle, Some, State, Step, ap, arith, bundle_handed, does_told, entry_of, inl, inr, known, length, logged, mode_fault, mode_outcome, moded_to, plain_state, refl, row_at, subst, sym, ℕ}
use Rattle.std.proofs.Common.{true, false, cond, ltb, take}
use Rattle.trio_rights.specs.Row.{Row}
use Rattle.trio_layout.specs.Accept.{next}
use Rattle.trio_layout.specs.Image.{Image}
use Rattle.trio_nodes.specs.declared.call.Call.{Call}
use Rattle.trio_nodes.specs.declared.answers.GrantFault.{GrantFault}
use Rattle.trio_nodes.specs.declared.answers.GrantFault.TheVariants.{NotLive, Denied, NoParent, Busy, NoMemory as NoGrantMemory}
use Rattle.trio_state.specs.Allotments.{allots, free_numbers, free_pages}
use Rattle.trio_state.specs.Bundles.{parted_hold, refused_image}
use Rattle.trio_state.specs.Grants.{grant_fault}
use Rattle.trio_state.specs.State.{settled}
use Rattle.trio_state.specs.Step.{Granted, NotGranted, Given, NoPages, NoInodes, Accepted, Refused, Settled, ModeSet, NotModeSet, Does, ReleaseEnd, Parted, IsAccepted, IsRefused, allot_outcome, grant_outcome, granted_to}
use Rattle.trio_laws.specs.Known.{refused_rule, SameAnswer}
use Rattle.trio_laws.specs.history.Entries.{event_of, answer_of, grant_entry, mode_entry, raw_entry, refused_for}
use Rattle.trio_laws.proofs.Cases.{after_allot, after_no_grant, after_no_mode}
use Rattle.trio_laws.proofs.KnownSteps.{known_decides, same_event_same_answer}
use Rattle.trio_nodes.specs.declared.answers.ReleaseAnswer.TheVariants.{Accepted as AcceptedBundle}
use Rattle.trio_order.proofs.Standing.{Alike}

-- ---- entries are counted

-- the state stays, or one entry more is counted
abbrev pub Grew : State → State → Type 0
Grew s s' = (s' ≡ s) ⊎ (s'.entries ≡ s.entries + 1)

granted_grew : (s : State) (lib ino : ℕ) (kind : GrantKind) (f : Option GrantFault) (o : Option Row) → Grew s (granted_to s lib ino kind f o).after
granted_grew s lib ino kind (Some fault) o = after_no_grant (Grew s) s fault (inl refl) (inr refl)
granted_grew s lib ino kind None None = inl refl
granted_grew s lib ino kind None (Some r) = inr refl

pub moded_grew : (s : State) (ino mode : ℕ) (f : Option ModeFault) → Grew s (moded_to s ino mode f).after
moded_grew s ino mode (Some fault) = after_no_mode (Grew s) s fault (inl refl) (inr refl)
moded_grew s ino mode None = inr refl

pub does_grew : (s : State) (event : Event) (answer : CtlAnswer) (s' : State) → Does s event answer s' → Grew s s'
does_grew s (Grant lib ino kind) answer s' d = subst (Grew s) (sym d.1) (granted_grew s lib ino kind (grant_fault s lib ino kind) (row_at s.home ino))
does_grew s (Allot lib pages numbers) answer s' d = subst (Grew s) (sym d.1) (after_allot (Grew s) s lib pages numbers (inr refl) (inr refl))
does_grew s (Back lib ino) answer s' d = inr (ap (λ (t : State). t.entries) d.1)
does_grew s (Release lib b) answer s' (Parted n some a same) = inl same
does_grew s (Release lib b) answer s' (IsAccepted none sure a ends) = inr ends.entries
does_grew s (Release lib b) answer s' (IsRefused none not_so why a tells ends) = inr ends.entries
does_grew s (Settle lib b) answer s' d = inr d.3.entries
does_grew s (SetMode lib ino mode) answer s' d = subst (Grew s) (sym d.1) (moded_grew s ino mode (mode_fault s lib ino mode (row_at s.home ino)))

stayed : (s s' : State) → Grew s s' → s'.entries ≡ s.entries → s' ≡ s
stayed s s' (inl same) still = same
stayed s s' (inr more) still = absurd (omega (arith, more, still))

-- ---- an event in two states

-- only a refused release names a rule
granted_rule : (s : State) (lib ino : ℕ) (kind : GrantKind) (f : Option GrantFault) (o : Option Row) → refused_rule (granted_to s lib ino kind f o).answer ≡ None
granted_rule s lib ino kind (Some fault) o = refl
granted_rule s lib ino kind None None = refl
granted_rule s lib ino kind None (Some r) = refl

allotted_rule : (s : State) (lib count many : ℕ) → refused_rule (allot_outcome s lib count many).answer ≡ None
allotted_rule s lib count many = either (ltb (length (free_pages s)) count) (ltb (length (free_numbers s)) many)
  where
    either : (a b : Bool)
        → refused_rule (cond {A = Outcome} a (record { answer = NoPages count (length (free_pages s)); after = logged s }) (cond b (record { answer = NoInodes many (length (free_numbers s)); after = logged s }) (record { answer = Given (take count (free_pages s)) (take many (free_numbers s)); after = allots s lib (take count (free_pages s)) (take many (free_numbers s)) }))).answer ≡ None
    either true b = refl
    either false true = refl
    either false false = refl

moded_rule : (s : State) (ino mode : ℕ) (f : Option ModeFault) → refused_rule (moded_to s ino mode f).answer ≡ None
moded_rule s ino mode (Some fault) = refl
moded_rule s ino mode None = refl

one_answer : (a b : CtlAnswer) → refused_rule a ≡ None → SameAnswer a b → a ≡ b
one_answer a b none (inl same) = same
one_answer a b none (inr rule) = (let wrong : None ≡ Some rule.0 = sym none ∙ rule.1 in absurd (cc wrong))

-- the same answer in another state, and what is known then
pub record Again (t : State) (event : Event) (answer : CtlAnswer) (s' : State) : Type 0 where
  pub after : State
  pub does : Does t event answer after
  pub same : known after ≡ known s'

module _ (s t : State) (a : Alike s t) where
  again : (event : Event) (answer b : CtlAnswer) (s' t' : State) → refused_rule answer ≡ None → Does s event answer s' → Does t event b t' → Again t event answer s'
  again event answer b s' t' none d e =
      let both = same_event_same_answer s t event answer b s' t' a.kept a.kept' a.same (inl d) (inl e) (does_told s event answer s' d) (does_told t event b t' e) in
      record { after = t'; does = subst (λ x. Does t event x t') (sym (one_answer answer b none both.0)) e; same = sym both.1 }

  grant_again : (lib ino : ℕ) (kind : GrantKind) (answer : CtlAnswer) (s' : State) → Does s (Grant lib ino kind) answer s' → Again t (Grant lib ino kind) answer s'
  grant_again lib ino kind answer s' d =
      again (Grant lib ino kind) answer (grant_outcome t lib ino kind).answer s' (grant_outcome t lib ino kind).after (ap refused_rule d.0 ∙ granted_rule s lib ino kind (grant_fault s lib ino kind) (row_at s.home ino)) d (refl, refl)

  allot_again : (lib pages numbers : ℕ) (answer : CtlAnswer) (s' : State) → Does s (Allot lib pages numbers) answer s' → Again t (Allot lib pages numbers) answer s'
  allot_again lib pages numbers answer s' d =
      again (Allot lib pages numbers) answer (allot_outcome t lib pages numbers).answer s' (allot_outcome t lib pages numbers).after (ap refused_rule d.0 ∙ allotted_rule s lib pages numbers) d (refl, refl)

  pub mode_again : (lib ino mode : ℕ) (answer : CtlAnswer) (s' : State) → Does s (SetMode lib ino mode) answer s' → Again t (SetMode lib ino mode) answer s'
  mode_again lib ino mode answer s' d =
      again (SetMode lib ino mode) answer (mode_outcome t lib ino mode).answer s' (mode_outcome t lib ino mode).after (ap refused_rule d.0 ∙ moded_rule s ino mode (mode_fault s lib ino mode (row_at s.home ino))) d (refl, refl)

  -- an event that makes no entry leaves the other state too
  at_rest : (event : Event) (answer : CtlAnswer) (s' : State) → s'.entries ≡ s.entries → Again t event answer s' → Step t event answer t
  at_rest event answer s' still r =
      let here : r.after.entries ≡ t.entries = ap (λ (k : Known). k.entries) r.same ∙ still ∙ ap (λ (k : Known). k.entries) a.same in
      inl (subst (Does t event answer) (stayed t r.after (does_grew t event answer r.after r.does) here) r.does)

  release_rests : (lib : ℕ) (b : Bundle) (answer : CtlAnswer) (s' : State) → s'.entries ≡ s.entries → ReleaseEnd s lib b answer s' → Step t (Release lib b) answer t
  release_rests lib b answer s' still (Parted n some is same) =
      inl (Parted n (sym ((known_decides t).parted lib b) ∙ ap (λ (k : Known). parted_hold (plain_state k) lib b) (sym a.same) ∙ (known_decides s).parted lib b ∙ some) is refl)
  release_rests lib b answer s' still (IsAccepted none sure is ends) = (let more = ends.entries in absurd (omega (arith, more, still)))
  release_rests lib b answer s' still (IsRefused none not_so why is tells ends) = (let more = ends.entries in absurd (omega (arith, more, still)))

  pub rests : (event : Event) (answer : CtlAnswer) (s' : State) → s'.entries ≡ s.entries → Step s event answer s' → Step t event answer t
  rests event answer s' still (inr none) = inr (none.0, none.1, refl)
  rests (Grant lib ino kind) answer s' still (inl d) = at_rest (Grant lib ino kind) answer s' still (grant_again lib ino kind answer s' d)
  rests (Allot lib pages numbers) answer s' still (inl d) = at_rest (Allot lib pages numbers) answer s' still (allot_again lib pages numbers answer s' d)
  rests (Back lib ino) answer s' still (inl d) = (let more : s'.entries ≡ s.entries + 1 = ap (λ (x : State). x.entries) d.1 in absurd (omega (arith, more, still)))
  rests (Release lib b) answer s' still (inl d) = release_rests lib b answer s' still d
  rests (Settle lib b) answer s' still (inl d) = (let more = d.3.entries in absurd (omega (arith, more, still)))
  rests (SetMode lib ino mode) answer s' still (inl d) = at_rest (SetMode lib ino mode) answer s' still (mode_again lib ino mode answer s' d)

-- ---- the entry of an event

-- what is told beside a bundle is the bundle as it was handed in
abbrev pub IsBeside : Beside → Event → Type 0
IsBeside x (Release lib b) = bundle_handed x.handed ≡ b
IsBeside x (Settle lib b) = bundle_handed x.handed ≡ b
IsBeside x event = Unit {0}

-- an entry tells of the event and of the answer that made it
pub record TellsOf (e : Entry) (event : Event) (answer : CtlAnswer) : Type 0 where
  pub event_is : event_of e ≡ event
  pub answer_is : answer_of e ≡ answer

told_by : (x e : Entry) (event : Event) (answer : CtlAnswer) → Some x ≡ Some e → event_of x ≡ event → answer_of x ≡ answer → TellsOf e event answer
told_by x e event answer is event_is answer_is =
    let same : x ≡ e = cc is in
    record { event_is = ap event_of (sym same) ∙ event_is; answer_is = ap answer_of (sym same) ∙ answer_is }

grant_tells : (lib ino : ℕ) (kind : GrantKind) (f : GrantFault) (e : Entry) → grant_entry lib ino kind f ≡ Some e → TellsOf e (Grant lib ino kind) (NotGranted f)
grant_tells lib ino kind NotLive e is = told_by _ e _ _ is refl refl
grant_tells lib ino kind (Denied by) e is = told_by _ e _ _ is refl refl
grant_tells lib ino kind NoParent e is = told_by _ e _ _ is refl refl
grant_tells lib ino kind (Busy holder) e is = absurd (cc is)
grant_tells lib ino kind NoGrantMemory e is = absurd (cc is)

mode_tells : (lib ino mode : ℕ) (call : Option Call) (f : ModeFault) (e : Entry) → mode_entry lib ino mode call f ≡ Some e → TellsOf e (SetMode lib ino mode) (NotModeSet f)
mode_tells lib ino mode call NoFile e is = told_by _ e _ _ is refl refl
mode_tells lib ino mode call NotOwner e is = told_by _ e _ _ is refl refl
mode_tells lib ino mode call BadMode e is = told_by _ e _ _ is refl refl
mode_tells lib ino mode call (BusyMode holder) e is = absurd (cc is)
mode_tells lib ino mode call NoModeMemory e is = absurd (cc is)

pub entry_tells : (s : State) (x : Beside) (event : Event) (answer : CtlAnswer) (e : Entry) → IsBeside x event → entry_of s x event answer ≡ Some e → TellsOf e event answer
entry_tells s x (Grant lib ino kind) (Granted children) e fits is = told_by _ e _ _ is refl refl
entry_tells s x (Grant lib ino kind) (NotGranted fault) e fits is = grant_tells lib ino kind fault e is
entry_tells s x (Allot lib pages numbers) (Given ps ns) e fits is = told_by _ e _ _ is refl refl
entry_tells s x (Allot lib pages numbers) (NoPages wanted free) e fits is = told_by _ e _ _ is refl refl
entry_tells s x (Allot lib pages numbers) (NoInodes wanted free) e fits is = told_by _ e _ _ is refl refl
entry_tells s x (Back lib ino) Done e fits is = told_by _ e _ _ is refl refl
entry_tells s x (Release lib b) Accepted e fits is = told_by _ e _ _ is (ap (Release lib) fits) refl
entry_tells s x (Release lib b) (Refused why) e fits is = told_by _ e _ _ is (ap (Release lib) fits) refl
entry_tells s x (Settle lib b) Settled e fits is = told_by _ e _ _ is (ap (Settle lib) fits) refl
entry_tells s x (SetMode lib ino mode) ModeSet e fits is = told_by _ e _ _ is refl refl
entry_tells s x (SetMode lib ino mode) (NotModeSet fault) e fits is = mode_tells lib ino mode x.call fault e is
entry_tells s x event answer e fits is = absurd (cc is)

-- it goes by what is settled
pub entry_same : (s t : State) (x : Beside) (event : Event) (answer : CtlAnswer) → settled t ≡ settled s → entry_of t x event answer ≡ entry_of s x event answer
entry_same s t x (Release lib b) Accepted e = ap (λ (image : Image). Some (raw_entry image lib x.handed AcceptedBundle (next image b))) e
entry_same s t x (Release lib b) (Refused why) e = ap (λ (image : Image). Some (raw_entry image lib x.handed (refused_for why) (refused_image image b))) e
entry_same s t x event answer e = refl
