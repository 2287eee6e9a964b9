use Rattle.trio_ctl.proofs.Words.{◌++◌, ◌+◌, ◌∙◌, ◌∷◌, ◌≡◌, AreLent, Controller, Entry, Err, Happens, IsLibrary, Kept, List, Logged, ModeSet, NotModeSet, Ok, SetMode, Shown, State, TellsChmod, [], all_back, ap, append-nil, arith, back_entries, busy_holder, desk_of, length, length-append, mode_fault, out_of, refl, row_at, subst, sym, vec_len, ℕ, image_in, length-map, Some}
use Rattle.trio_nodes.specs.declared.answers.ModeFault.TheVariants.{Busy, NoMemory}
use Rattle.trio_nodes.specs.declared.entry.Entry.TheVariants as entry
use Rattle.trio_ctl.proofs.LeasesBack.{all_back_is, are_back, backs_whose}
use Rattle.trio_ctl.proofs.ModeCalls.{busy_told, fault_told, free_at, happens_moded, happens_refused, happens_wants, moded_history, moded_logs, moded_room, plain_call, plain_refusal, plain_told, refused_history, refused_logs}
use Rattle.trio_ctl.proofs.Recording.{next_entry, one_room}
use Rattle.trio_ctl.proofs.Spending.{longer, spends_places, spends_entry, spends_so}
use Rattle.trio_ctl.proofs.Views.{seen_idle, seen_state}
use Rattle.trio_ctl.proofs.Seen.{more_places, seen_kept}
use Rattle.trio_ctl.proofs.ctl.Ctl.set_mode.Goals as goal

pub make_mode_room-requires : goal.make_mode_room-requires
make_mode_room-requires c = record { entry = next_entry _ _ _ _ _ _ _ _ c.self.invariant.0 c.len.ensures c.make_places.ensures.kept }

pub refuse_mode-requires-clause-entry : goal.refuse_mode-requires-clause-entry
refuse_mode-requires-clause-entry c = next_entry _ _ _ _ _ _ _ _ c.self.invariant.0 c.len-in-Some-fault.ensures c.make_places.ensures.kept

pub give_back_all-requires-clause-entry : goal.give_back_all-requires-clause-entry
give_back_all-requires-clause-entry c = next_entry _ _ _ _ _ _ _ _ c.self.invariant.0 refl c.make_places.ensures.kept

pub returns-in-Some : goal.returns-in-Some
returns-in-Some c =
    let i = c.self.inside in
    let s = i.registry.state in
    let lib = c.args.lib in
    let back = c.args.back.items in
    let same = seen_state c.self.view_is in
    let lent = subst (λ (v : State). AreLent (out_of v lib) back) (sym same) c.requires.lent in
    let at = sym (ap (λ (l : List Shown). mode_fault (all_back s lib l) lib.0 c.args.ino c.args.mode (row_at s.home c.args.ino)) c.deref.ensures.value) ∙ sym c.mode_fault-fault.ensures in
    let holder = c.in-Some.holder in
    let fault = at ∙ busy_told c.mode_fault-fault.result holder (sym c.busy_holder.ensures ∙ c.in-Some.is) in
    let told = NotModeSet (Busy holder) in
    let ask = SetMode c.args.ino c.args.mode back c.args.call in
    record {
      happens = subst (λ (v : State). Happens v lib ask told v) same (happens_refused s lib c.args.ino c.args.mode back c.args.call lent (Busy holder) s fault refl);
      logs = record { log = sym (append-nil c.args.self.now.log); first = refl; begun = refl };
      leases = refl;
      call = refl;
      spends = record { entries = omega arith; bytes = omega arith };
      unspent = λ same. record { entries = omega arith; bytes = omega arith };
      floor = omega arith;
      was_kept = subst Kept same c.self.invariant.0.all.kept;
      kept = subst Kept same c.self.invariant.0.all.kept;
    }

pub returns-in_default-make_places : goal.returns-in_default-make_places
returns-in_default-make_places c =
    let same = seen_state c.self.view_is in
    let lent = subst (λ (v : State). AreLent (out_of v c.args.lib) c.args.back.items) (sym same) c.requires.lent in
    record {
      happens =
          subst (λ (v : State). Happens v c.args.lib (SetMode c.args.ino c.args.mode c.args.back.items c.args.call) (NotModeSet NoMemory) c.self.inside.registry.state) same
          (happens_wants c.self.inside.registry.state c.args.lib c.args.ino c.args.mode c.args.back.items c.args.call lent);
      logs = record {
        log = c.make_places.ensures.kept ∙ ap (λ (x : Controller). x.log) c.self.view_is ∙ sym (append-nil c.args.self.now.log);
        first = ap (λ (x : Controller). x.first) c.self.view_is;
        begun = ap (λ (x : Controller). x.begun) c.self.view_is;
      };
      leases = refl;
      call = refl;
      spends = spends_places c.self.inside.log c.self.inside.registry.promised (vec_len c.self.inside.spares.kits) c.self.inside.spares.bytes (ap (λ (x : Controller). x.spare) c.self.view_is) 1 c.make_places.new.log c.self.inside.registry.promised c.make_places.ensures.kept c.make_places.ensures.grows (omega arith);
      unspent = λ same. spends_places c.self.inside.log c.self.inside.registry.promised (vec_len c.self.inside.spares.kits) c.self.inside.spares.bytes (ap (λ (x : Controller). x.spare) c.self.view_is) 0 c.make_places.new.log c.self.inside.registry.promised c.make_places.ensures.kept c.make_places.ensures.grows (omega arith);
      floor = (let still = ap (λ (x : Controller). x.looked) c.self.view_is in omega (arith, still));
      was_kept = subst Kept same c.self.invariant.0.all.kept;
      kept = c.self.invariant.0.all.kept;
    }

pub returns-in_default-make_mode_room : goal.returns-in_default-make_mode_room
returns-in_default-make_mode_room c =
    let same = seen_state c.self.view_is in
    let lent = subst (λ (v : State). AreLent (out_of v c.args.lib) c.args.back.items) (sym same) c.requires.lent in
    record {
      happens =
          subst (λ (v : State). Happens v c.args.lib (SetMode c.args.ino c.args.mode c.args.back.items c.args.call) (NotModeSet NoMemory) c.self.inside.registry.state) same
          (happens_wants c.self.inside.registry.state c.args.lib c.args.ino c.args.mode c.args.back.items c.args.call lent);
      logs = record {
        log = c.make_places.ensures.kept ∙ ap (λ (x : Controller). x.log) c.self.view_is ∙ sym (append-nil c.args.self.now.log);
        first = ap (λ (x : Controller). x.first) c.self.view_is;
        begun = ap (λ (x : Controller). x.begun) c.self.view_is;
      };
      leases = refl;
      call = refl;
      spends = spends_places c.self.inside.log c.self.inside.registry.promised (vec_len c.self.inside.spares.kits) c.self.inside.spares.bytes (ap (λ (x : Controller). x.spare) c.self.view_is) 1 c.make_places.new.log c.self.inside.registry.promised c.make_places.ensures.kept c.make_places.ensures.grows (omega arith);
      unspent = λ same. spends_places c.self.inside.log c.self.inside.registry.promised (vec_len c.self.inside.spares.kits) c.self.inside.spares.bytes (ap (λ (x : Controller). x.spare) c.self.view_is) 0 c.make_places.new.log c.self.inside.registry.promised c.make_places.ensures.kept c.make_places.ensures.grows (omega arith);
      floor = (let still = ap (λ (x : Controller). x.looked) c.self.view_is in omega (arith, still));
      was_kept = subst Kept same c.self.invariant.0.all.kept;
      kept = c.self.invariant.0.all.kept;
    }

pub invariant_of-self-in-Some-fault : goal.invariant_of-self-in-Some-fault
invariant_of-self-in-Some-fault c =
    let i = c.self.inside in
    let s = i.registry.state in
    let lib = c.args.lib in
    let back = c.args.back.items in
    let same = seen_state c.self.view_is in
    let lent = subst (λ (v : State). AreLent (out_of v lib) back) (sym same) c.requires.lent in
    let at = sym (ap (λ (l : List Shown). mode_fault (all_back s lib l) lib.0 c.args.ino c.args.mode (row_at s.home c.args.ino)) c.deref.ensures.value) ∙ sym c.mode_fault-fault.ensures in
    let f = c.in-Some-fault.fault in
    let fault = at ∙ c.in-Some-fault.is in
    let none = ap busy_holder (sym c.in-Some-fault.is) ∙ sym c.busy_holder.ensures ∙ c.in_default.is in
    let library = subst (λ (v : State). IsLibrary v.creds lib.0) (sym same) c.requires.library in
    let tells = subst (λ (v : State). TellsChmod (desk_of v lib) back c.args.ino c.args.mode c.args.call) (sym same) c.requires.chmod in
    let places = rw c.promised.ensures at c.in-Ok.ensures.room in (
      refused_history s lib c.args.ino c.args.mode back c.args.call _ i.registry.begun c.refuse_mode.new.self.begun i.registry.promised i.log i.notes c.self.invariant.0 (seen_idle c.args.lib.0 c.self.view_is c.requires.idle) c.refuse_mode.ensures.begun c.self.invariant.0.all.kept library lent tells f c.refuse_mode.new.self.state c.refuse_mode.new.self.promised c.push.new.self (plain_told f none) fault c.refuse_mode.ensures.state
          (ap (λ (l : Logged). l.entries) c.push.ensures ∙ ap (λ (l : List Entry). l ++ entry.Mode lib c.args.ino c.args.mode (Err f) c.args.call ∷ []) c.make_places.ensures.kept)
          (rw c.push.ensures (one_room c.make_places.new.log.entries (entry.Mode lib c.args.ino c.args.mode (Err f) c.args.call) i.registry.promised c.refuse_mode.new.self.promised c.make_places.new.log.room places c.refuse_mode.ensures.promised)),
      c.self.invariant.1,
    )

pub returns-in-Some-fault-clause-kept : goal.returns-in-Some-fault-clause-kept
returns-in-Some-fault-clause-kept c =
    let i = c.self.inside in
    let s = i.registry.state in
    let lib = c.args.lib in
    let back = c.args.back.items in
    let same = seen_state c.self.view_is in
    let lent = subst (λ (v : State). AreLent (out_of v lib) back) (sym same) c.requires.lent in
    let at = sym (ap (λ (l : List Shown). mode_fault (all_back s lib l) lib.0 c.args.ino c.args.mode (row_at s.home c.args.ino)) c.deref.ensures.value) ∙ sym c.mode_fault-fault.ensures in
    let f = c.in-Some-fault.fault in
    let fault = at ∙ c.in-Some-fault.is in
    let none = ap busy_holder (sym c.in-Some-fault.is) ∙ sym c.busy_holder.ensures ∙ c.in_default.is in
    let library = subst (λ (v : State). IsLibrary v.creds lib.0) (sym same) c.requires.library in
    let tells = subst (λ (v : State). TellsChmod (desk_of v lib) back c.args.ino c.args.mode c.args.call) (sym same) c.requires.chmod in
    let places = rw c.promised.ensures at c.in-Ok.ensures.room in
    (refused_history s lib c.args.ino c.args.mode back c.args.call _ i.registry.begun c.refuse_mode.new.self.begun i.registry.promised i.log i.notes c.self.invariant.0 (seen_idle c.args.lib.0 c.self.view_is c.requires.idle) c.refuse_mode.ensures.begun c.self.invariant.0.all.kept library lent tells f c.refuse_mode.new.self.state c.refuse_mode.new.self.promised c.push.new.self (plain_told f none) fault c.refuse_mode.ensures.state
    (ap (λ (l : Logged). l.entries) c.push.ensures ∙ ap (λ (l : List Entry). l ++ entry.Mode lib c.args.ino c.args.mode (Err f) c.args.call ∷ []) c.make_places.ensures.kept)
    (rw c.push.ensures (one_room c.make_places.new.log.entries (entry.Mode lib c.args.ino c.args.mode (Err f) c.args.call) i.registry.promised c.refuse_mode.new.self.promised c.make_places.new.log.room places c.refuse_mode.ensures.promised))).all.kept

pub returns-in-Some-fault-clause-happens : goal.returns-in-Some-fault-clause-happens
returns-in-Some-fault-clause-happens c =
    let i = c.self.inside in
    let s = i.registry.state in
    let lib = c.args.lib in
    let back = c.args.back.items in
    let same = seen_state c.self.view_is in
    let lent = subst (λ (v : State). AreLent (out_of v lib) back) (sym same) c.requires.lent in
    let at = sym (ap (λ (l : List Shown). mode_fault (all_back s lib l) lib.0 c.args.ino c.args.mode (row_at s.home c.args.ino)) c.deref.ensures.value) ∙ sym c.mode_fault-fault.ensures in
    let f = c.in-Some-fault.fault in
    let fault = at ∙ c.in-Some-fault.is in
    let none = ap busy_holder (sym c.in-Some-fault.is) ∙ sym c.busy_holder.ensures ∙ c.in_default.is in
    let told = fault_told (all_back s lib back) lib.0 c.args.ino c.args.mode (row_at s.home c.args.ino) f fault in
    subst (λ (v : State). Happens v lib (SetMode c.args.ino c.args.mode back c.args.call) (NotModeSet f) c.refuse_mode.new.self.state) same
    (happens_refused s lib c.args.ino c.args.mode back c.args.call lent f c.refuse_mode.new.self.state fault (c.refuse_mode.ensures.state ∙ plain_refusal s f none told))

pub returns-in-Some-fault-clause-call : goal.returns-in-Some-fault-clause-call
returns-in-Some-fault-clause-call c =
    let i = c.self.inside in
    let s = i.registry.state in
    let lib = c.args.lib in
    let back = c.args.back.items in
    let same = seen_state c.self.view_is in
    let lent = subst (λ (v : State). AreLent (out_of v lib) back) (sym same) c.requires.lent in
    let at = sym (ap (λ (l : List Shown). mode_fault (all_back s lib l) lib.0 c.args.ino c.args.mode (row_at s.home c.args.ino)) c.deref.ensures.value) ∙ sym c.mode_fault-fault.ensures in
    let f = c.in-Some-fault.fault in
    let fault = at ∙ c.in-Some-fault.is in
    let none = ap busy_holder (sym c.in-Some-fault.is) ∙ sym c.busy_holder.ensures ∙ c.in_default.is in
    plain_call c.args.call f none (fault_told (all_back s lib back) lib.0 c.args.ino c.args.mode (row_at s.home c.args.ino) f fault)

pub give_back_all-requires-clause-given : goal.give_back_all-requires-clause-given
give_back_all-requires-clause-given c =
    let i = c.self.inside in
    let s = i.registry.state in
    let lib = c.args.lib in
    let back = c.args.back.items in
    let same = seen_state c.self.view_is in
    let lent = subst (λ (v : State). AreLent (out_of v lib) back) (sym same) c.requires.lent in
    let at = sym (ap (λ (l : List Shown). mode_fault (all_back s lib l) lib.0 c.args.ino c.args.mode (row_at s.home c.args.ino)) c.deref.ensures.value) ∙ sym c.mode_fault-fault.ensures in
    are_back s lib back lent

pub give_back_all-requires-clause-whose : goal.give_back_all-requires-clause-whose
give_back_all-requires-clause-whose c =
    let i = c.self.inside in
    let s = i.registry.state in
    let lib = c.args.lib in
    let back = c.args.back.items in
    let same = seen_state c.self.view_is in
    let lent = subst (λ (v : State). AreLent (out_of v lib) back) (sym same) c.requires.lent in
    let at = sym (ap (λ (l : List Shown). mode_fault (all_back s lib l) lib.0 c.args.ino c.args.mode (row_at s.home c.args.ino)) c.deref.ensures.value) ∙ sym c.mode_fault-fault.ensures in
    backs_whose s lib back lent

pub change_mode-requires-clause-free : goal.change_mode-requires-clause-free
change_mode-requires-clause-free c =
    let i = c.self.inside in
    let s = i.registry.state in
    let lib = c.args.lib in
    let back = c.args.back.items in
    let same = seen_state c.self.view_is in
    let lent = subst (λ (v : State). AreLent (out_of v lib) back) (sym same) c.requires.lent in
    let at = sym (ap (λ (l : List Shown). mode_fault (all_back s lib l) lib.0 c.args.ino c.args.mode (row_at s.home c.args.ino)) c.deref.ensures.value) ∙ sym c.mode_fault-fault.ensures in
    let free = at ∙ c.in_default-fault.is in
    (lib.0, free_at s lib c.args.ino c.args.mode back c.args.call c.give_back_all.new.registry.state c.give_back_all.ensures.state free)

pub change_mode-requires-clause-room : goal.change_mode-requires-clause-room
change_mode-requires-clause-room c =
    let i = c.self.inside in
    let s = i.registry.state in
    let n = ap (λ (v : State). v.entries) (c.give_back_all.ensures.state ∙ all_back_is s c.args.lib c.args.back.items) in
    let p = c.give_back_all.ensures.promised in
    let room = c.in-Ok-make_mode_room.ensures in
    omega (arith, n, p, room)

pub invariant_of-self-2 : goal.invariant_of-self-2
invariant_of-self-2 c =
    let i = c.self.inside in
    let s = i.registry.state in
    let lib = c.args.lib in
    let back = c.args.back.items in
    let same = seen_state c.self.view_is in
    let lent = subst (λ (v : State). AreLent (out_of v lib) back) (sym same) c.requires.lent in
    let at = sym (ap (λ (l : List Shown). mode_fault (all_back s lib l) lib.0 c.args.ino c.args.mode (row_at s.home c.args.ino)) c.deref.ensures.value) ∙ sym c.mode_fault-fault.ensures in
    let free = at ∙ c.in_default-fault.is in
    let library = subst (λ (v : State). IsLibrary v.creds lib.0) (sym same) c.requires.library in
    let tells = subst (λ (v : State). TellsChmod (desk_of v lib) back c.args.ino c.args.mode c.args.call) (sym same) c.requires.chmod in
    let places = rw c.promised.ensures at c.in-Ok.ensures.room in
    let less : c.change_mode.new.self.promised + length back ≡ i.registry.promised = ap (λ (n : ℕ). n + length back) c.change_mode.ensures.promised ∙ c.give_back_all.ensures.promised in (
      moded_history s lib c.args.ino c.args.mode back c.args.call _ i.registry.begun c.change_mode.new.self.begun i.registry.promised i.log i.notes c.self.invariant.0 (seen_idle c.args.lib.0 c.self.view_is c.requires.idle) (c.change_mode.ensures.begun ∙ c.give_back_all.ensures.begun) c.self.invariant.0.all.kept library lent tells c.give_back_all.new.registry.state c.change_mode.new.self.state c.give_back_all.new.log c.push-2.new.self c.change_mode.new.self.promised
          c.give_back_all.ensures.state (c.give_back_all.ensures.log ∙ ap (λ (l : List Entry). l ++ back_entries lib back) c.make_places.ensures.kept) less
          (free_at s lib c.args.ino c.args.mode back c.args.call c.give_back_all.new.registry.state c.give_back_all.ensures.state free) c.change_mode.ensures.state (ap (λ (l : Logged). l.entries) c.push-2.ensures)
          (moded_room lib back i.log c.make_places.new.log c.give_back_all.new.log c.push-2.new.self (entry.Mode lib c.args.ino c.args.mode (Ok tt) c.args.call) i.registry.promised c.change_mode.new.self.promised c.make_places.ensures.kept places c.give_back_all.ensures.log c.give_back_all.ensures.room less c.push-2.ensures),
      c.self.invariant.1,
    )

pub returns-clause-kept : goal.returns-clause-kept
returns-clause-kept c =
    let i = c.self.inside in
    let s = i.registry.state in
    let lib = c.args.lib in
    let back = c.args.back.items in
    let same = seen_state c.self.view_is in
    let lent = subst (λ (v : State). AreLent (out_of v lib) back) (sym same) c.requires.lent in
    let at = sym (ap (λ (l : List Shown). mode_fault (all_back s lib l) lib.0 c.args.ino c.args.mode (row_at s.home c.args.ino)) c.deref.ensures.value) ∙ sym c.mode_fault-fault.ensures in
    let free = at ∙ c.in_default-fault.is in
    let library = subst (λ (v : State). IsLibrary v.creds lib.0) (sym same) c.requires.library in
    let tells = subst (λ (v : State). TellsChmod (desk_of v lib) back c.args.ino c.args.mode c.args.call) (sym same) c.requires.chmod in
    let places = rw c.promised.ensures at c.in-Ok.ensures.room in
    let less : c.change_mode.new.self.promised + length back ≡ i.registry.promised = ap (λ (n : ℕ). n + length back) c.change_mode.ensures.promised ∙ c.give_back_all.ensures.promised in
    (moded_history s lib c.args.ino c.args.mode back c.args.call _ i.registry.begun c.change_mode.new.self.begun i.registry.promised i.log i.notes c.self.invariant.0 (seen_idle c.args.lib.0 c.self.view_is c.requires.idle) (c.change_mode.ensures.begun ∙ c.give_back_all.ensures.begun) c.self.invariant.0.all.kept library lent tells c.give_back_all.new.registry.state c.change_mode.new.self.state c.give_back_all.new.log c.push-2.new.self c.change_mode.new.self.promised
    c.give_back_all.ensures.state (c.give_back_all.ensures.log ∙ ap (λ (l : List Entry). l ++ back_entries lib back) c.make_places.ensures.kept) less
    (free_at s lib c.args.ino c.args.mode back c.args.call c.give_back_all.new.registry.state c.give_back_all.ensures.state free) c.change_mode.ensures.state (ap (λ (l : Logged). l.entries) c.push-2.ensures)
    (moded_room lib back i.log c.make_places.new.log c.give_back_all.new.log c.push-2.new.self (entry.Mode lib c.args.ino c.args.mode (Ok tt) c.args.call) i.registry.promised c.change_mode.new.self.promised c.make_places.ensures.kept places c.give_back_all.ensures.log c.give_back_all.ensures.room less c.push-2.ensures)).all.kept

pub returns-clause-happens : goal.returns-clause-happens
returns-clause-happens c =
    let i = c.self.inside in
    let s = i.registry.state in
    let lib = c.args.lib in
    let back = c.args.back.items in
    let same = seen_state c.self.view_is in
    let lent = subst (λ (v : State). AreLent (out_of v lib) back) (sym same) c.requires.lent in
    let at = sym (ap (λ (l : List Shown). mode_fault (all_back s lib l) lib.0 c.args.ino c.args.mode (row_at s.home c.args.ino)) c.deref.ensures.value) ∙ sym c.mode_fault-fault.ensures in
    let free = at ∙ c.in_default-fault.is in
    subst (λ (v : State). Happens v lib (SetMode c.args.ino c.args.mode back c.args.call) ModeSet c.change_mode.new.self.state) same
    (happens_moded s lib c.args.ino c.args.mode back c.args.call lent c.give_back_all.new.registry.state c.change_mode.new.self.state c.give_back_all.ensures.state free c.change_mode.ensures.state)

pub returns-clause-logs : goal.returns-clause-logs
returns-clause-logs c =
    let lib = c.args.lib in
    let back = c.args.back.items in
    moded_logs c.args.self.now _ lib c.args.ino c.args.mode back c.args.call
    (ap (λ (l : Logged). l.entries) c.push-2.ensures
    ∙ ap (λ (l : List Entry). l ++ entry.Mode lib c.args.ino c.args.mode (Ok tt) c.args.call ∷ []) (c.give_back_all.ensures.log ∙ ap (λ (l : List Entry). l ++ back_entries lib back) (c.make_places.ensures.kept ∙ ap (λ (x : Controller). x.log) c.self.view_is)))
    (ap (λ (x : Controller). x.first) c.self.view_is)
    (c.change_mode.ensures.begun ∙ c.give_back_all.ensures.begun ∙ ap (λ (x : Controller). x.begun) c.self.view_is)

pub returns-clause-floor : goal.returns-clause-floor
returns-clause-floor c =
    let still = ap (λ (x : Controller). x.looked) c.self.view_is in
    let back = c.give_back_all.ensures.looked in
    let more = c.change_mode.ensures.floor in
    omega (arith, still, back, more)

pub returns-in-Some-fault-clause-floor : goal.returns-in-Some-fault-clause-floor
returns-in-Some-fault-clause-floor c =
    let still = ap (λ (x : Controller). x.looked) c.self.view_is in
    let back = c.refuse_mode.ensures.looked in
    omega (arith, still, back)

pub returns-clause-unspent : goal.returns-clause-unspent
returns-clause-unspent c = λ same.
    let was = ap (λ (es : List Entry). length es) (c.make_places.ensures.kept ∙ ap (λ (x : Controller). x.log) c.self.view_is) in
    let backs = ap (λ (es : List Entry). length es) c.give_back_all.ensures.log ∙ length-append c.make_places.new.log.entries (back_entries c.args.lib c.args.back.items) in
    longer c.args.self.now.log c.give_back_all.new.log.entries _ _ (ap (λ (l : Logged). l.entries) c.push-2.ensures) (omega (arith, was, backs)) same

pub returns-in-Some-fault-clause-unspent : goal.returns-in-Some-fault-clause-unspent
returns-in-Some-fault-clause-unspent c = λ same.
    let was = ap (λ (es : List Entry). length es) (c.make_places.ensures.kept ∙ ap (λ (x : Controller). x.log) c.self.view_is) in
    longer c.args.self.now.log c.make_places.new.log.entries _ _ (ap (λ (l : Logged). l.entries) c.push.ensures) (omega (arith, was)) same

pub returns-clause-was_kept : goal.returns-clause-was_kept
returns-clause-was_kept c = seen_kept c.self.view_is c.self.invariant.0.all.kept

pub returns-in-Some-fault-clause-was_kept : goal.returns-in-Some-fault-clause-was_kept
returns-in-Some-fault-clause-was_kept c = seen_kept c.self.view_is c.self.invariant.0.all.kept

pub invariant_of-self-in_default-make_mode_room : goal.invariant_of-self-in_default-make_mode_room
invariant_of-self-in_default-make_mode_room c =
    let i = c.self.inside in
    (more_places (image_in i.first.value.superblock i.first.value.pages) i.registry.state i.registry.begun i.registry.promised i.log c.make_places.new.log i.notes c.self.invariant.0 c.make_places.ensures.kept c.make_places.ensures.grows, c.self.invariant.1)

pub invariant_of-self : goal.invariant_of-self
invariant_of-self c =
    let i = c.self.inside in
    (more_places (image_in i.first.value.superblock i.first.value.pages) i.registry.state i.registry.begun i.registry.promised i.log c.make_places.new.log i.notes c.self.invariant.0 c.make_places.ensures.kept c.make_places.ensures.grows, c.self.invariant.1)

pub returns-in-Some-fault-clause-spends : goal.returns-in-Some-fault-clause-spends
returns-in-Some-fault-clause-spends c =
    let few = c.refuse_mode.ensures.promised in
    spends_entry c.self.inside.log c.self.inside.registry.promised (vec_len c.self.inside.spares.kits) c.self.inside.spares.bytes (ap (λ (x : Controller). x.spare) c.self.view_is) 1 c.make_places.new.log c.push.new.self c.refuse_mode.new.self.promised _ c.make_places.ensures.kept c.make_places.ensures.grows c.push.ensures (omega (arith, few))

pub returns-in-Some-fault-clause-logs : goal.returns-in-Some-fault-clause-logs
returns-in-Some-fault-clause-logs c =
    let i = c.self.inside in
    let s = i.registry.state in
    let lib = c.args.lib in
    let back = c.args.back.items in
    let f = c.in-Some-fault.fault in
    let row = row_at s.home c.args.ino in
    let at = sym (ap (λ (l : List Shown). mode_fault (all_back s lib l) lib.0 c.args.ino c.args.mode row) c.deref.ensures.value) ∙ sym c.mode_fault-fault.ensures in
    let fault = subst (λ (v : State). mode_fault (all_back v lib back) lib.0 c.args.ino c.args.mode row ≡ Some f) (seen_state c.self.view_is) (at ∙ c.in-Some-fault.is) in
    let none = ap busy_holder (sym c.in-Some-fault.is) ∙ sym c.busy_holder.ensures ∙ c.in_default.is in
    refused_logs c.args.self.now _ lib c.args.ino c.args.mode back c.args.call f row fault (plain_told f none)
    (ap (λ (l : Logged). l.entries) c.push.ensures ∙ ap (λ (l : List Entry). l ++ entry.Mode lib c.args.ino c.args.mode (Err f) c.args.call ∷ []) (c.make_places.ensures.kept ∙ ap (λ (x : Controller). x.log) c.self.view_is))
    (ap (λ (x : Controller). x.first) c.self.view_is)
    (c.refuse_mode.ensures.begun ∙ ap (λ (x : Controller). x.begun) c.self.view_is)

pub returns-clause-spends : goal.returns-clause-spends
returns-clause-spends c =
    let mid = c.give_back_all.new.log in
    let back = c.args.back.items in
    let long = ap (λ (es : List Entry). length es) c.make_places.ensures.kept in
    let backs = ap (λ (es : List Entry). length es) c.give_back_all.ensures.log ∙ length-append c.make_places.new.log.entries (back_entries c.args.lib back) in
    let each = length-map back (λ (f : Shown). entry.Back c.args.lib f.ino) in
    let one = ap (λ (l : Logged). length l.entries) c.push-2.ensures ∙ length-append mid.entries (entry.Mode c.args.lib c.args.ino c.args.mode (Ok tt) c.args.call ∷ []) in
    let less = c.give_back_all.ensures.promised in
    let same = c.change_mode.ensures.promised in
    let grows = c.make_places.ensures.grows in
    let stays = c.give_back_all.ensures.room in
    let pushed = ap (λ (l : Logged). l.room) c.push-2.ensures in
    spends_so c.self.inside.log c.self.inside.registry.promised (vec_len c.self.inside.spares.kits) c.self.inside.spares.bytes (ap (λ (x : Controller). x.spare) c.self.view_is) 1 c.push-2.new.self c.change_mode.new.self.promised (vec_len c.self.inside.spares.kits) c.self.inside.spares.bytes
    (omega (arith, long, backs, each, one, less, same)) (omega (arith, grows, stays, pushed)) (omega arith) refl
