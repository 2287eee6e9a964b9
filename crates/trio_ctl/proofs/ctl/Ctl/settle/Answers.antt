use Rattle.trio_ctl.proofs.Words.{◌++◌, ◌+◌, ◌∙◌, ◌∷◌, ◌≡◌, ◌≤◌, Bundled, Case, Controller, Entry, GivenTo, Happens, HasHistory, IsLibrary, IsOutcome, IsSettled, Kept, List, Logged, Ready, Release, SettleAsked, Shown, State, Step, TellsOutcome, [], all_back, ap, append-nil, append_assoc, arith, back_entries, bundle_in, case_in, desk_of, handed_in, image_in, length, length-append, length-map, noted_by, outline_of, parcel_of, parted_hold, refl, subst, sym, underway_at, vec_len, verdict_of, ℕ}
use Rattle.trio_nodes.specs.declared.entry.Entry.TheVariants as entry
use Rattle.trio_ctl.proofs.DeskGiven.{given_to, were_held, were_lent}
use Rattle.trio_ctl.proofs.LeasesBack.{backs_whose}
use Rattle.trio_ctl.proofs.Ends.{after_begin}
use Rattle.trio_ctl.proofs.Keeping.{closed_lacks, has_both, has_place, spare_here, spare_there}
use Rattle.trio_ctl.proofs.Spending.{spends_places, spends_so}
use Rattle.trio_ctl.proofs.Recording.{next_entry, one_room}
use Rattle.trio_ctl.proofs.RecordedReleases.{are_noted, whole_is}
use Rattle.trio_ctl.proofs.Settling.{after_settle, back_in_turn, case_then, judgeable_then, lent_reads, moment, not_settled_seen, places_then, room_then, settled_then}
use Rattle.trio_ctl.proofs.Views.{seen_idle, seen_state}
use Rattle.trio_ctl.proofs.Seen.{more_places}
use Rattle.trio_ctl.proofs.ctl.Ctl.settle.Goals as goal

pub judged-requires-clause-entry : goal.judged-requires-clause-entry
judged-requires-clause-entry c = next_entry _ _ _ _ _ _ _ _ c.self.invariant.0 c.len-entry.ensures c.make_places.ensures.kept

pub give_back_all-requires-clause-entry : goal.give_back_all-requires-clause-entry
give_back_all-requires-clause-entry c = next_entry _ _ _ _ _ _ _ _ c.self.invariant.0 refl c.make_places.ensures.kept

pub judged-requires-clause-given : goal.judged-requires-clause-given
judged-requires-clause-given c =
    let ready = subst (λ (v : State). Ready (desk_of v c.args.lib) (parcel_of c.args.bundle) c.args.back.items c.args.calls.items) (sym (seen_state c.self.view_is)) c.requires.ready in
    given_to c.self.inside.registry.state c.args.lib (parcel_of c.args.bundle) ready.all.given

pub judged-requires-clause-held : goal.judged-requires-clause-held
judged-requires-clause-held c =
    let ready = subst (λ (v : State). Ready (desk_of v c.args.lib) (parcel_of c.args.bundle) c.args.back.items c.args.calls.items) (sym (seen_state c.self.view_is)) c.requires.ready in
    were_held c.self.inside.registry.state c.args.lib (parcel_of c.args.bundle) ready.all.given

pub returns-in_default : goal.returns-in_default
returns-in_default c =
    record {
      happens = not_settled_seen c.args.lib c.args.bundle c.args.back.items c.args.calls.items c.self.invariant.0.all.kept c.self.invariant.0.lent (seen_state c.self.view_is) c.requires.ready;
      logs = record {
        log = c.make_places.ensures.kept ∙ ap (λ (x : Controller). x.log) c.self.view_is ∙ sym (append-nil c.args.self.now.log);
        first = ap (λ (x : Controller). x.first) c.self.view_is;
        begun = ap (λ (x : Controller). x.begun) c.self.view_is;
      };
      bundle = refl;
      leases = refl;
      calls = refl;
      sure = λ room.
          let place = has_place (bundle_in c.args.bundle) c.self.inside.log c.self.inside.registry.promised (vec_len c.self.inside.spares.kits) c.self.inside.spares.bytes c.self.view_is refl room in
          let promised = c.promised.ensures in
          c.in_default.ensures.succeeds (omega (arith, place, promised));
      spends = spends_places c.self.inside.log c.self.inside.registry.promised (vec_len c.self.inside.spares.kits) c.self.inside.spares.bytes (ap (λ (x : Controller). x.spare) c.self.view_is) 1 c.make_places.new.log c.self.inside.registry.promised c.make_places.ensures.kept c.make_places.ensures.grows (omega arith);
      unspent = spends_places c.self.inside.log c.self.inside.registry.promised (vec_len c.self.inside.spares.kits) c.self.inside.spares.bytes (ap (λ (x : Controller). x.spare) c.self.view_is) 0 c.make_places.new.log c.self.inside.registry.promised c.make_places.ensures.kept c.make_places.ensures.grows (omega arith);
      looked = (let same = ap (λ (x : Controller). x.looked) c.self.view_is in omega (arith, same));
      floor = (let still = ap (λ (x : Controller). x.looked) c.self.view_is in omega (arith, still));
      was_kept = subst Kept (seen_state c.self.view_is) c.self.invariant.0.all.kept;
      kept = c.self.invariant.0.all.kept;
    }

pub returns-in-Err : goal.returns-in-Err
returns-in-Err c =
    record {
      happens = not_settled_seen c.args.lib c.args.bundle c.args.back.items c.args.calls.items c.self.invariant.0.all.kept c.self.invariant.0.lent (seen_state c.self.view_is) c.requires.ready;
      logs = record {
        log = c.make_places.ensures.kept ∙ ap (λ (x : Controller). x.log) c.self.view_is ∙ sym (append-nil c.args.self.now.log);
        first = ap (λ (x : Controller). x.first) c.self.view_is;
        begun = ap (λ (x : Controller). x.begun) c.self.view_is;
      };
      bundle = c.in-Err.ensures.back;
      leases = refl;
      calls = refl;
      sure = λ room.
          let s = c.self.inside.registry.state in
          let b = bundle_in c.args.bundle in
          let ready = subst (λ (v : State). Ready (desk_of v c.args.lib) (parcel_of c.args.bundle) c.args.back.items c.args.calls.items) (sym (seen_state c.self.view_is)) c.requires.ready in
          let closed = (moment s c.args.lib (parcel_of c.args.bundle) c.args.back.items ready.all c.self.invariant.0.all.kept c.self.invariant.0.lent).judgeable.closed in
          let both = has_both (bundle_in c.args.bundle) c.self.inside.log c.self.inside.registry.promised c.self.inside.spares c.self.view_is refl (next_entry _ _ _ _ _ _ _ _ c.self.invariant.0 refl refl) c.is_small.ensures room in
          absurd (c.in-Err.ensures.sure both.0 both.1 (closed_lacks (underway_at c.self.inside.registry) c.args.lib.0 b c.in-Err.field-0-1 (underway_at c.self.inside.registry) closed c.in-Err.ensures.fault));
      spends =
          spends_so c.self.inside.log c.self.inside.registry.promised (vec_len c.self.inside.spares.kits) c.self.inside.spares.bytes (ap (λ (x : Controller). x.spare) c.self.view_is) 1 c.make_places.new.log c.self.inside.registry.promised (vec_len c.judged.new.spares.kits) c.judged.new.spares.bytes
          (let long = ap (λ (es : List Entry). length es) c.make_places.ensures.kept in omega (arith, long)) c.make_places.ensures.grows c.judged.ensures.takes.kits c.judged.ensures.takes.bytes;
      unspent =
          spends_so c.self.inside.log c.self.inside.registry.promised (vec_len c.self.inside.spares.kits) c.self.inside.spares.bytes (ap (λ (x : Controller). x.spare) c.self.view_is) 0 c.make_places.new.log c.self.inside.registry.promised (vec_len c.judged.new.spares.kits) c.judged.new.spares.bytes
          (let long = ap (λ (es : List Entry). length es) c.make_places.ensures.kept in omega (arith, long)) c.make_places.ensures.grows (let kits = c.in-Err.ensures.unspent in omega (arith, kits)) c.judged.ensures.takes.bytes;
      looked = (let same = ap (λ (x : Controller). x.looked) c.self.view_is in omega (arith, same));
      floor = (let still = ap (λ (x : Controller). x.looked) c.self.view_is in omega (arith, still));
      was_kept = subst Kept (seen_state c.self.view_is) c.self.invariant.0.all.kept;
      kept = c.self.invariant.0.all.kept;
    }

pub told-told-requires-clause-noted : goal.told-told-requires-clause-noted
told-told-requires-clause-noted c = are_noted c.self.inside.registry.state c.rows-rows.result.now c.self.inside.notes c.self.invariant.0.all.kept c.rows-rows.ensures c.self.invariant.0.noted

pub give_back_all-requires-clause-given : goal.give_back_all-requires-clause-given
give_back_all-requires-clause-given c =
    let ready = subst (λ (v : State). Ready (desk_of v c.args.lib) (parcel_of c.args.bundle) c.args.back.items c.args.calls.items) (sym (seen_state c.self.view_is)) c.requires.ready in
    back_in_turn c.self.inside.registry.state c.args.lib (parcel_of c.args.bundle) c.args.back.items ready.all

pub give_back_all-requires-clause-whose : goal.give_back_all-requires-clause-whose
give_back_all-requires-clause-whose c =
    let ready = subst (λ (v : State). Ready (desk_of v c.args.lib) (parcel_of c.args.bundle) c.args.back.items c.args.calls.items) (sym (seen_state c.self.view_is)) c.requires.ready in
    backs_whose c.self.inside.registry.state c.args.lib c.args.back.items (lent_reads c.self.inside.registry.state c.args.lib (parcel_of c.args.bundle) c.args.back.items ready.all)

pub conclude-verdict-requires-clause-room : goal.conclude-verdict-requires-clause-room
conclude-verdict-requires-clause-room c =
    let r = c.self.inside.registry in
    let was = next_entry _ _ _ _ _ _ _ _ c.self.invariant.0 refl c.make_places.ensures.kept in
    room_then c.make_places.new.log.entries c.give_back_all.new.log.entries c.args.lib c.args.back.items r.state.entries c.give_back_all.new.registry.state.entries r.promised c.give_back_all.new.registry.promised
    was c.give_back_all.ensures.entry c.give_back_all.ensures.log c.give_back_all.ensures.promised (c.in-Ok-judged.ensures.room refl)

pub conclude-verdict-requires-clause-given : goal.conclude-verdict-requires-clause-given
conclude-verdict-requires-clause-given c =
    let s = c.self.inside.registry.state in
    let lib = c.args.lib in
    let ready = subst (λ (v : State). Ready (desk_of v lib) (parcel_of c.args.bundle) c.args.back.items c.args.calls.items) (sym (seen_state c.self.view_is)) c.requires.ready in
    let j = judgeable_then s lib c.args.bundle c.args.back.items c.args.calls.items c.self.invariant.0.all.kept c.self.invariant.0.lent ready in
    subst (λ (v : State). GivenTo v lib.0 (bundle_in c.in-Ok-judged.judged.0.bundle)) (sym c.give_back_all.ensures.state)
    (subst (λ (x : Bundled). GivenTo (all_back s lib c.args.back.items) lib.0 (bundle_in x)) (sym c.in-Ok-judged.ensures.case) j.given)

pub conclude-verdict-requires-clause-closed : goal.conclude-verdict-requires-clause-closed
conclude-verdict-requires-clause-closed c =
    let s = c.self.inside.registry.state in
    let lib = c.args.lib in
    let ready = subst (λ (v : State). Ready (desk_of v lib) (parcel_of c.args.bundle) c.args.back.items c.args.calls.items) (sym (seen_state c.self.view_is)) c.requires.ready in
    let j = judgeable_then s lib c.args.bundle c.args.back.items c.args.calls.items c.self.invariant.0.all.kept c.self.invariant.0.lent ready in
    ap (λ (v : State). parted_hold v lib.0 (bundle_in c.in-Ok-judged.judged.0.bundle)) c.give_back_all.ensures.state
    ∙ ap (λ (x : Bundled). parted_hold (all_back s lib c.args.back.items) lib.0 (bundle_in x)) c.in-Ok-judged.ensures.case ∙ j.closed

pub conclude-verdict-requires-clause-outcome : goal.conclude-verdict-requires-clause-outcome
conclude-verdict-requires-clause-outcome c =
    let s = c.self.inside.registry.state in
    let lib = c.args.lib in
    let b = c.args.bundle in
    let ready = subst (λ (v : State). Ready (desk_of v lib) (parcel_of b) c.args.back.items c.args.calls.items) (sym (seen_state c.self.view_is)) c.requires.ready in
    let same : case_in s lib.0 (bundle_in b) ≡ case_in c.give_back_all.new.registry.state lib.0 (bundle_in c.in-Ok-judged.judged.0.bundle) =
    sym (case_then s lib c.args.back.items (bundle_in b) c.self.invariant.0.all.kept (back_in_turn s lib (parcel_of b) c.args.back.items ready.all))
    ∙ ap (λ (v : State). case_in v lib.0 (bundle_in b)) (sym c.give_back_all.ensures.state)
    ∙ ap (λ (x : Bundled). case_in c.give_back_all.new.registry.state lib.0 (bundle_in x)) (sym c.in-Ok-judged.ensures.case) in
    subst (λ (x : Case). IsOutcome x c.in-Ok-judged.judged.1) same c.in-Ok-judged.ensures.outcome

pub invariant_of-self-2 : goal.invariant_of-self-2
invariant_of-self-2 c =
    let i = c.self.inside in
    let s = i.registry.state in
    let lib = c.args.lib in
    let b = c.args.bundle in
    let back = c.args.back.items in
    let calls = c.args.calls.items in
    let seen = seen_state c.self.view_is in
    let ready = subst (λ (v : State). Ready (desk_of v lib) (parcel_of b) back calls) (sym seen) c.requires.ready in
    let library = subst (λ (v : State). IsLibrary v.creds lib.0) (sym seen) c.requires.library in
    let k = c.in-Ok-judged.judged.0 in
    let o = c.in-Ok-judged.judged.1 in
    let was = c.in-Ok-judged.ensures in
    let whole = whole_is k s lib.0 (bundle_in b) c.rows-rows.result.now was.rows c.rows-rows.ensures in
    let handed : c.into_handed.result ≡ handed_in b = c.into_handed.ensures ∙ c.told-told.ensures.handed ∙ ap handed_in was.case in
    let told =
    subst (λ (x : Bundled). TellsOutcome (case_in s lib.0 (bundle_in b)) i.notes (handed_in x) o c.told-told.result) was.case
    (subst (λ (x : Case). TellsOutcome x i.notes (handed_in k.bundle) o c.told-told.result) whole c.told-told.ensures.told)
    in
    let result = c.conclude-verdict.result in
    let after = c.conclude-verdict.new.self.state in
    let step =
    subst (λ (x : Bundled). Step (all_back s lib back) (Release lib.0 (bundle_in x)) (verdict_of result) after) was.case
    (subst (λ (v : State). Step v (Release lib.0 (bundle_in k.bundle)) (verdict_of result) after) c.give_back_all.ensures.state c.conclude-verdict.ensures.step)
    in
    let noted = c.note.ensures ∙ ap (λ fs. noted_by result fs i.notes) c.as_slice.ensures in
    let mid = c.give_back_all.new.log in
    let backs = c.give_back_all.ensures.log ∙ ap (λ (l : List Entry). l ++ back_entries lib back) c.make_places.ensures.kept in
    let pushed =
    ap (λ (l : Logged). l.entries) c.push.ensures
    ∙ ap (λ ds. mid.entries ++ entry.Batch lib ds c.into_handed.result ∷ []) c.from_vec.ensures
    ∙ ap (λ h. mid.entries ++ entry.Batch lib calls h ∷ []) handed
    in
    let p' = c.give_back_all.new.registry.promised in
    let places = rw (c.promised.ensures) at c.in-Ok.ensures.room in
    let left = places_then c.make_places.new.log.entries lib back i.registry.promised p' c.make_places.new.log.room places c.give_back_all.ensures.promised in
    let here = subst (λ (es : List Entry). length es + p' + 1 ≤ c.make_places.new.log.room) (sym c.give_back_all.ensures.log) left in
    let room : length mid.entries + p' + 1 ≤ mid.room = subst (λ (n : ℕ). length mid.entries + p' + 1 ≤ n) (sym c.give_back_all.ensures.room) here in
    let less : length mid.entries + p' ≤ mid.room = omega (arith, room) in (
      subst (λ n. HasHistory (image_in i.first.value.superblock i.first.value.pages) after c.conclude-verdict.new.self.begun n c.push.new.self c.note.new.notes) (sym c.conclude-verdict.ensures.promised)
          (after_settle s lib b back calls c.self.invariant.0.all.kept c.self.invariant.0.lent ready (image_in i.first.value.superblock i.first.value.pages) after i.registry.begun c.conclude-verdict.new.self.begun i.registry.promised p' i.log mid c.push.new.self i.notes c.note.new.notes o c.told-told.result result
          c.self.invariant.0 (seen_idle c.args.lib.0 c.self.view_is c.requires.idle) (c.conclude-verdict.ensures.begun ∙ c.give_back_all.ensures.begun) library (were_lent s lib (parcel_of b) ready.all.given) c.keeps_untouched.ensures was.outcome told c.conclude-verdict.ensures.verdict step noted backs c.give_back_all.ensures.promised less pushed
          (rw c.push.ensures (one_room mid.entries (entry.Batch lib c.from_vec.result c.into_handed.result) p' p' mid.room room refl))),
      spare_there c.self.inside.registry.state (image_in c.self.inside.first.value.superblock c.self.inside.first.value.pages) c.judged.new.spares c.self.invariant.0.sizes c.in-Ok-judged.ensures.takes.spare,
    )

pub returns-clause-happens : goal.returns-clause-happens
returns-clause-happens c =
    let s = c.self.inside.registry.state in
    let lib = c.args.lib in
    let b = c.args.bundle in
    let back = c.args.back.items in
    let calls = c.args.calls.items in
    let seen = seen_state c.self.view_is in
    let ready = subst (λ (v : State). Ready (desk_of v lib) (parcel_of b) back calls) (sym seen) c.requires.ready in
    let result = c.conclude-verdict.result in
    let after = c.conclude-verdict.new.self.state in
    let step =
    subst (λ (x : Bundled). Step (all_back s lib back) (Release lib.0 (bundle_in x)) (verdict_of result) after) c.in-Ok-judged.ensures.case
    (subst (λ (v : State). Step v (Release lib.0 (bundle_in c.in-Ok-judged.judged.0.bundle)) (verdict_of result) after) c.give_back_all.ensures.state c.conclude-verdict.ensures.step)
    in
    subst (λ (v : State). Happens v lib (SettleAsked (parcel_of b) back calls) IsSettled after) seen
    (settled_then s lib b back calls c.self.invariant.0.all.kept c.self.invariant.0.lent ready after result step)

pub returns-clause-logs : goal.returns-clause-logs
returns-clause-logs c =
    let i = c.self.inside in
    let lib = c.args.lib in
    let b = c.args.bundle in
    let back = c.args.back.items in
    let calls = c.args.calls.items in
    let was = c.in-Ok-judged.ensures in
    let handed : c.into_handed.result ≡ handed_in b = c.into_handed.ensures ∙ c.told-told.ensures.handed ∙ ap handed_in was.case in
    let mid = c.give_back_all.new.log in
    let batch : Entry = entry.Batch lib calls (handed_in b) in
    let made =
    ap (λ (l : Logged). l.entries) c.push.ensures
    ∙ ap (λ ds. mid.entries ++ entry.Batch lib ds c.into_handed.result ∷ []) c.from_vec.ensures
    ∙ ap (λ h. mid.entries ++ entry.Batch lib calls h ∷ []) handed
    ∙ ap (λ (l : List Entry). l ++ batch ∷ []) (c.give_back_all.ensures.log ∙ ap (λ (l : List Entry). l ++ back_entries lib back) c.make_places.ensures.kept)
    ∙ append_assoc i.log.entries (back_entries lib back) (batch ∷ [])
    ∙ ap (λ (x : Controller). x.log ++ (back_entries lib back ++ batch ∷ [])) c.self.view_is
    in
    record { log = made; first = ap (λ (x : Controller). x.first) c.self.view_is; begun = c.conclude-verdict.ensures.begun ∙ c.give_back_all.ensures.begun ∙ ap (λ (x : Controller). x.begun) c.self.view_is }

pub returns-clause-floor : goal.returns-clause-floor
returns-clause-floor c =
    let still = ap (λ (x : Controller). x.looked) c.self.view_is in
    let back = c.give_back_all.ensures.looked in
    let more = c.conclude-verdict.ensures.floor in
    omega (arith, still, back, more)

pub judged-requires-clause-spare : goal.judged-requires-clause-spare
judged-requires-clause-spare c = spare_here c.self.inside.registry.state (image_in c.self.inside.first.value.superblock c.self.inside.first.value.pages) c.self.inside.spares c.self.invariant.0.sizes c.self.invariant.1

pub told-told-requires-clause-draft : goal.told-told-requires-clause-draft
told-told-requires-clause-draft c =
    c.in-Ok-judged.ensures.draft ∙ ap (λ (x : Bundled). outline_of (bundle_in x)) (sym c.in-Ok-judged.ensures.case)

pub returns-clause-spends : goal.returns-clause-spends
returns-clause-spends c =
    let mid = c.give_back_all.new.log in
    let back = c.args.back.items in
    let long = ap (λ (es : List Entry). length es) c.make_places.ensures.kept in
    let backs = ap (λ (es : List Entry). length es) c.give_back_all.ensures.log ∙ length-append c.make_places.new.log.entries (back_entries c.args.lib back) in
    let each = length-map back (λ (f : Shown). entry.Back c.args.lib f.ino) in
    let one = ap (λ (l : Logged). length l.entries) c.push.ensures ∙ length-append mid.entries (entry.Batch c.args.lib c.from_vec.result c.into_handed.result ∷ []) in
    let less = c.give_back_all.ensures.promised in
    let same = c.conclude-verdict.ensures.promised in
    let grows = c.make_places.ensures.grows in
    let stays = c.give_back_all.ensures.room in
    let pushed = ap (λ (l : Logged). l.room) c.push.ensures in
    spends_so c.self.inside.log c.self.inside.registry.promised (vec_len c.self.inside.spares.kits) c.self.inside.spares.bytes (ap (λ (x : Controller). x.spare) c.self.view_is) 1 c.push.new.self c.conclude-verdict.new.self.promised (vec_len c.judged.new.spares.kits) c.judged.new.spares.bytes
    (omega (arith, long, backs, each, one, less, same)) (omega (arith, grows, stays, pushed)) c.judged.ensures.takes.kits c.judged.ensures.takes.bytes

pub invariant_of-self-in-Err : goal.invariant_of-self-in-Err
invariant_of-self-in-Err c =
    let i = c.self.inside in
    let first = image_in i.first.value.superblock i.first.value.pages in
    let h = c.self.invariant.0 in
    let long = ap (λ (es : List Entry). length es) c.make_places.ensures.kept in
    let room = h.room in
    let grows = c.make_places.ensures.grows in (
      after_begin first i.registry.state i.registry.state i.registry.begun i.registry.begun i.registry.promised i.registry.promised i.log c.make_places.new.log i.notes h refl h.underway c.make_places.ensures.kept (omega (arith, long, room, grows)),
      spare_there i.registry.state first c.judged.new.spares h.sizes c.judged.ensures.takes.spare,
    )

pub invariant_of-self : goal.invariant_of-self
invariant_of-self c =
    let i = c.self.inside in
    (more_places (image_in i.first.value.superblock i.first.value.pages) i.registry.state i.registry.begun i.registry.promised i.log c.make_places.new.log i.notes c.self.invariant.0 c.make_places.ensures.kept c.make_places.ensures.grows, c.self.invariant.1)
