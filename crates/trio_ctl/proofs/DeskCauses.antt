-- What a grant tells is true of the nodes at which it is given or refused, and so is the cause of a refused change of mode.
use Rattle.trio_ctl.proofs.Words.{◌∙◌, ◌≡◌, AreBack, AreLentTo, BadMode, Busy, BusyMode, Call, Creds, Denied, Err, GrantFault, GrantKind, Happens, Hold, IfOk, In, In-cases, In-list_any, In-map, IsSomeAnd, Kept, Kind, Lease, LentIsTrue, LibNo, List, ModeFault, NoGrantMemory, NoModeMemory, NoParent, Nodes, None, NotLive, NotOwner, Ok, OpenGrant, Option, Read, Result, Row, SetMode, Shown, Some, State, Step, Write, all_back, alone, and_from, ap, both_ways, creds_of, desk_of, eq-eqb, false≢true, given_by, grant_answer, grant_fault_answer, inl, inr, is_some, is_write, lease_told, leases_stay_true, lent_by, map, map-In, mode_fault_answer, mode_told, node_by, node_is, nodes_of, not-true, opened, option_map, out_of, refl, row_at, rows_say, settled, shown_of, states_are_trees, subst, sym, true, write_is, writer_of, ℕ}
use Rattle.std.specs.Prelude.{◌&&◌, ◌==◌}
use Rattle.trio_nodes.specs.GrantKinds.{same_kind}
use Rattle.trio_nodes.specs.declared.answers.ModeFault.TheVariants.{NotLive as NoFile}
use Rattle.trio_nodes.specs.declared.node.Node.{Node}
use Rattle.trio_nodes.specs.Nodes.{node_at}
use Rattle.trio_nodes.specs.Standing.{Standing}
use Rattle.trio_nodes.specs.Legal.{lacks_directory, parent_stands}
use Rattle.trio_desk.specs.Call.{Grant}
use Rattle.trio_desk.specs.Refusals.{HasMoment, IsCause, IsModeCause, TellsCause, file_kind, leases_out}
use Rattle.trio_state.specs.Step as step
use Rattle.trio_laws.specs.history.Stands.{standing_of}
use Rattle.trio_laws.proofs.history.GrantStep.{grant_extends}
use Rattle.trio_laws.proofs.history.ModeStep.{mode_extends}
use Rattle.trio_ctl.proofs.DeskGiven.{behind}
use Rattle.trio_ctl.proofs.DeskOuts.{numbers_to-In}
use Rattle.trio_ctl.proofs.LeasesBack.{all_back_is, backs_kept, backs_nodes}
use Rattle.trio_ctl.proofs.Settling.{hold_lent, read_lent, write_lent}

-- all that is out is the library's, each as it was lent
all_lent : (s : State) (lib : LibNo) → AreLentTo s lib.0 (leases_out (out_of s lib))
all_lent s lib = record {
  files = λ f i. elim (In-cases f (out_of s lib).writes (out_of s lib).reads i) [ inl w ↦ write_lent s lib f w | inr r ↦ read_lent s lib f r ];
  holds = λ h i. hold_lent s lib h i;
}

-- an allotted number has no node
none_allotted : (s : State) → Kept s → (lib : LibNo) (n : ℕ) → In n (out_of s lib).numbers → node_at (nodes_of s) n ≡ None
none_allotted s k lib n i = node_is s k n ∙ ap (node_by (settled s) n (writer_of s n)) (k.numbers_free n (ap is_some (numbers_to-In s.numbers_out lib.0 n i)))

-- the nodes of the moment are those of the state
has_moment : (s : State) → Kept s → (lib : LibNo) → LentIsTrue s → HasMoment (desk_of s lib)
has_moment s k lib t =
    let here = leases_stay_true s lib.0 (leases_out (out_of s lib)) k t (all_lent s lib) in
    record {
      nodes = nodes_of s;
      rows = s.home.rows;
      tree = states_are_trees s k;
      agrees = here.agrees;
      none = none_allotted s k lib;
      same = rows_say s k;
      places = here.places;
    }

-- a file that is out for writing has a write grant of the library that stands
writes_stand : (s : State) (lib : LibNo) (x : Node) → In x.parent (map (λ (w : Shown). w.ino) (out_of s lib).writes) → parent_stands (map standing_of s.open_grants) lib.0 (Some x) ≡ true
writes_stand s lib x i =
    let m = map-In (λ (w : Shown). w.ino) x.parent (out_of s lib).writes i in
    let b = behind shown_of is_write s lib m.0 m.1 in
    let on : b.grant.ino ≡ x.parent = ap (λ (w : Shown). w.ino) (sym b.is) ∙ sym m.2 in
    let mine : (b.grant.lib == lib.0) ≡ true = eq-eqb b.grant.lib lib.0 b.lib in
    let here : (b.grant.ino == x.parent) ≡ true = eq-eqb b.grant.ino x.parent on in
    let writes : same_kind b.grant.kind Write ≡ true = ap (λ t. same_kind t Write) (write_is b.grant.kind b.kind) in
    In-list_any (λ (g : Standing). g.lib == lib.0 && g.ino == x.parent && same_kind g.kind Write) (standing_of b.grant) (map standing_of s.open_grants)
    (In-map standing_of b.grant s.open_grants b.is_open)
    (and_from (b.grant.lib == lib.0 && b.grant.ino == x.parent) (same_kind b.grant.kind Write) (and_from (b.grant.lib == lib.0) (b.grant.ino == x.parent) mine here) writes)

file_kind-given_by : (kind : GrantKind) (g : OpenGrant) → file_kind (given_by kind g) ≡ g.of
file_kind-given_by Read g = refl
file_kind-given_by Write g = refl
file_kind-given_by Hold g = refl

module _ (s : State) (k : Kept s) (lib : LibNo) (ino : ℕ) (kind : GrantKind) where
  abbrev Cause : GrantFault → Type 0
  Cause fault = IsCause (nodes_of s) (creds_of s lib.0) (out_of s lib) ino kind fault

  no_parent : (t : GrantKind) → kind ≡ t → lacks_directory (map standing_of s.open_grants) lib.0 t (node_at (nodes_of s) ino) ≡ true → Cause NoParent
  no_parent Read is e = absurd (false≢true e)
  no_parent Write is e = absurd (false≢true e)
  no_parent Hold is e =
      let stands = parent_stands (map standing_of s.open_grants) lib.0 (node_at (nodes_of s) ino) in
      (is, λ x at i. both_ways stands (not-true stands e) (ap (parent_stands (map standing_of s.open_grants) lib.0) at ∙ writes_stand s lib x i))

  -- the entry of a refusal is legal, so its cause is true
  cause_is : (fault : GrantFault) (s' : State) → Step s (step.Grant lib.0 ino kind) (grant_fault_answer fault) s' → Cause fault
  cause_is (Busy holder) s' st = tt
  cause_is NoGrantMemory s' st = tt
  cause_is NotLive s' (inl d) = (grant_extends s k lib.0 ino kind alone (step.NotGranted NotLive) s' d).legal
  cause_is NotLive s' (inr none) = let wrong : step.NotGranted NotLive ≡ step.NoMemory = none.1 in absurd (cc wrong)
  cause_is (Denied by) s' (inl d) = (grant_extends s k lib.0 ino kind alone (step.NotGranted (Denied by)) s' d).legal
  cause_is (Denied by) s' (inr none) = let wrong : step.NotGranted (Denied by) ≡ step.NoMemory = none.1 in absurd (cc wrong)
  cause_is NoParent s' (inl d) = no_parent kind refl (grant_extends s k lib.0 ino kind alone (step.NotGranted NoParent) s' d).legal
  cause_is NoParent s' (inr none) = let wrong : step.NotGranted NoParent ≡ step.NoMemory = none.1 in absurd (cc wrong)

  -- what is lent by a grant on the file
  abbrev IsLentOn : Lease → Type 0
  IsLentOn lease = IsSomeAnd (row_at s.home ino) (λ r. lease ≡ lent_by (opened s lib.0 ino kind r))

  -- the node of the file has the kind of what is lent
  kind_is : (lease : Lease) → IsLentOn lease → option_map (λ x. x.kind) (node_at (nodes_of s) ino) ≡ Some (file_kind lease)
  kind_is lease is = by (row_at s.home ino) refl is
    where
      by : (o : Option Row) → row_at s.home ino ≡ o → IsSomeAnd o (λ r. lease ≡ lent_by (opened s lib.0 ino kind r)) → option_map (λ x. x.kind) (node_at (nodes_of s) ino) ≡ Some (file_kind lease)
      by None at is = absurd is
      by (Some r) at is =
          let g : OpenGrant = opened s lib.0 ino kind r in
          let lent : file_kind lease ≡ r.kind = ap file_kind is ∙ file_kind-given_by kind g in
          ap (option_map (λ (x : Node). x.kind)) (node_is s k ino ∙ ap (node_by (settled s) ino (writer_of s ino)) at) ∙ ap (λ (t : Kind). Some t) (sym lent)

  pub grant_cause : LentIsTrue s → (r : Result Lease GrantFault) (s' : State) → Step s (step.Grant lib.0 ino kind) (grant_answer r) s' → IfOk r IsLentOn → TellsCause (desk_of s lib) (Grant ino kind) (lease_told r)
  unfolding has_moment
  grant_cause t (Ok lease) s' st is = record { moment = has_moment s k lib t; kind = kind_is lease is }
  grant_cause t (Err fault) s' st is = record { moment = has_moment s k lib t; cause = cause_is fault s' st }

-- ---- a change of mode

-- the entry of a refusal is legal, so its cause is true
mode_cause : (s : State) (lib : LibNo) (ino mode : ℕ) (back : List Shown) (fault : ModeFault) (t : State) → Kept s → AreBack s lib back → Step (all_back s lib back) (step.SetMode lib.0 ino mode) (mode_fault_answer fault) t → IsModeCause (nodes_of s) (creds_of s lib.0) ino mode fault
mode_cause s lib ino mode back fault t k a st = by fault st
  where
    u : State
    u = all_back s lib back

    same : nodes_of u ≡ nodes_of s
    same = backs_nodes s lib back k a

    creds : creds_of u lib.0 ≡ creds_of s lib.0
    creds = ap (λ (x : State). creds_of x lib.0) (all_back_is s lib back)

    by : (fault : ModeFault) → Step u (step.SetMode lib.0 ino mode) (mode_fault_answer fault) t → IsModeCause (nodes_of s) (creds_of s lib.0) ino mode fault
    by NoFile (inl d) = subst (λ (nodes : Nodes). node_at nodes ino ≡ None) same (mode_extends u (backs_kept s lib back k a) lib.0 ino mode alone (step.NotModeSet NoFile) t d (λ said e. tt)).legal.0
    by NotOwner (inl d) =
        subst (λ (c : Creds). IsModeCause (nodes_of s) c ino mode NotOwner) creds
        (subst (λ (nodes : Nodes). IsModeCause nodes (creds_of u lib.0) ino mode NotOwner) same (mode_extends u (backs_kept s lib back k a) lib.0 ino mode alone (step.NotModeSet NotOwner) t d (λ said e. tt)).legal.0)
    by BadMode (inl d) = (mode_extends u (backs_kept s lib back k a) lib.0 ino mode alone (step.NotModeSet BadMode) t d (λ said e. tt)).legal.0
    by (BusyMode holder) st = tt
    by NoModeMemory st = tt
    by NoFile (inr none) = (let wrong : step.NotModeSet NoFile ≡ step.NoMemory = none.1 in absurd (cc wrong))
    by NotOwner (inr none) = (let wrong : step.NotModeSet NotOwner ≡ step.NoMemory = none.1 in absurd (cc wrong))
    by BadMode (inr none) = (let wrong : step.NotModeSet BadMode ≡ step.NoMemory = none.1 in absurd (cc wrong))

-- so a refused change of mode has its cause
pub moded_cause : {A B : Type 0} (s : State) → Kept s → LentIsTrue s → (lib : LibNo) (ino mode : ℕ) (back : List Shown) (call : Option Call) (r : Result A B) (f : B → ModeFault) (s' : State)
    → Happens s lib (SetMode ino mode back call) (mode_told r f) s' → TellsCause (desk_of s lib) (SetMode ino mode back call) (mode_told r f)
unfolding has_moment
moded_cause s k t lib ino mode back call (Ok done) f s' h = tt
moded_cause s k t lib ino mode back call (Err b) f s' h = record { moment = has_moment s k lib t; cause = mode_cause s lib ino mode back (f b) h.is_step.0.0 k h.back h.is_step.0.1 }
