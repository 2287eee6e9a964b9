use Rattle.trio_ctl.proofs.Words.{◌++◌, ◌∙◌, ◌∷◌, Allot, Controller, Entry, IsLibrary, Kept, List, Logged, State, Step, [], allot_answer, ap, append-nil, arith, inr, length, refl, subst, sym, vec_len, image_in}
use Rattle.trio_nodes.specs.declared.entry.Entry.TheVariants as entry
use Rattle.trio_ctl.proofs.Recording.{after_call, allot_entries, next_entry, one_room, same_room}
use Rattle.trio_ctl.proofs.Spending.{longer, spends_entry, spends_places}
use Rattle.trio_ctl.proofs.Views.{seen_idle, seen_state}
use Rattle.trio_ctl.proofs.Seen.{more_places}
use Rattle.trio_ctl.proofs.ctl.Ctl.allot.Goals as goal

pub allot-result-requires-clause-entry : goal.allot-result-requires-clause-entry
allot-result-requires-clause-entry c = next_entry _ _ _ _ _ _ _ _ c.self.invariant.0 c.len.ensures c.make_places.ensures.kept

pub invariant_of-self-in-Some : goal.invariant_of-self-in-Some
invariant_of-self-in-Some c =
    let i = c.self.inside in
    let s = i.registry.state in
    let lib = c.args.lib in
    let e = entry.Allot lib c.args.pages c.args.inodes c.in-Some.answer in
    let library = subst (λ (v : State). IsLibrary v.creds lib.0) (sym (seen_state c.self.view_is)) c.requires.library in
    let told = sym c.in-Some.is ∙ c.allot_told.ensures in
    let pushed = ap (λ (l : Logged). l.entries) c.push.ensures ∙ ap (λ (l : List Entry). l ++ e ∷ []) c.make_places.ensures.kept ∙ sym (ap (λ (l : List Entry). i.log.entries ++ l) (allot_entries s lib c.args.pages c.args.inodes c.allot-result.result _ told)) in
    let places = rw (c.promised.ensures) at c.in-Ok.ensures.room in (
      after_call _ s c.allot-result.new.self.state i.registry.begun c.allot-result.new.self.begun i.registry.promised c.allot-result.new.self.promised i.log c.push.new.self i.notes (Allot lib.0 c.args.pages c.args.inodes) _ c.self.invariant.0 c.allot-result.ensures.was_kept (seen_idle c.args.lib.0 c.self.view_is c.requires.idle) c.allot-result.ensures.begun library tt tt c.allot-result.ensures.step tt pushed
          (rw c.push.ensures (one_room c.make_places.new.log.entries e i.registry.promised c.allot-result.new.self.promised c.make_places.new.log.room places c.allot-result.ensures.promised)),
      c.self.invariant.1,
    )

pub invariant_of-self-in_default-allot_told : goal.invariant_of-self-in_default-allot_told
invariant_of-self-in_default-allot_told c =
    let i = c.self.inside in
    let s = i.registry.state in
    let lib = c.args.lib in
    let library = subst (λ (v : State). IsLibrary v.creds lib.0) (sym (seen_state c.self.view_is)) c.requires.library in
    let told = sym c.in_default-allot_told.is ∙ c.allot_told.ensures in
    let same = c.make_places.ensures.kept ∙ sym (append-nil i.log.entries) ∙ sym (ap (λ (l : List Entry). i.log.entries ++ l) (allot_entries s lib c.args.pages c.args.inodes c.allot-result.result _ told)) in
    let places = rw (c.promised.ensures) at c.in-Ok.ensures.room in (
      after_call _ s c.allot-result.new.self.state i.registry.begun c.allot-result.new.self.begun i.registry.promised c.allot-result.new.self.promised i.log c.make_places.new.log i.notes (Allot lib.0 c.args.pages c.args.inodes) _ c.self.invariant.0 c.allot-result.ensures.was_kept (seen_idle c.args.lib.0 c.self.view_is c.requires.idle) c.allot-result.ensures.begun library tt tt c.allot-result.ensures.step tt same
          (same_room c.make_places.new.log.entries i.registry.promised c.allot-result.new.self.promised c.make_places.new.log.room places c.allot-result.ensures.promised),
      c.self.invariant.1,
    )

pub returns-in_default : goal.returns-in_default
returns-in_default c = record {
  step = inr (refl, refl, seen_state c.self.view_is);
  logs = record {
    log = c.make_places.ensures.kept ∙ ap (λ (x : Controller). x.log) c.self.view_is ∙ sym (append-nil c.args.self.now.log);
    first = ap (λ (x : Controller). x.first) c.self.view_is;
    begun = ap (λ (x : Controller). x.begun) c.self.view_is;
  };
  pages = tt;
  inodes = tt;
  spends = spends_places c.self.inside.log c.self.inside.registry.promised (vec_len c.self.inside.spares.kits) c.self.inside.spares.bytes (ap (λ (x : Controller). x.spare) c.self.view_is) 1 c.make_places.new.log c.self.inside.registry.promised c.make_places.ensures.kept c.make_places.ensures.grows (omega arith);
  unspent = λ same. spends_places c.self.inside.log c.self.inside.registry.promised (vec_len c.self.inside.spares.kits) c.self.inside.spares.bytes (ap (λ (x : Controller). x.spare) c.self.view_is) 0 c.make_places.new.log c.self.inside.registry.promised c.make_places.ensures.kept c.make_places.ensures.grows (omega arith);
  floor = (let still = ap (λ (x : Controller). x.looked) c.self.view_is in omega (arith, still));
  was_kept = subst Kept (seen_state c.self.view_is) c.self.invariant.0.all.kept;
  kept = c.self.invariant.0.all.kept;
}

pub returns-in_default-with : goal.returns-in_default-with
returns-in_default-with c = record {
  step = inr (refl, refl, seen_state c.self.view_is);
  logs = record {
    log = c.make_places.ensures.kept ∙ ap (λ (x : Controller). x.log) c.self.view_is ∙ sym (append-nil c.args.self.now.log);
    first = ap (λ (x : Controller). x.first) c.self.view_is;
    begun = ap (λ (x : Controller). x.begun) c.self.view_is;
  };
  pages = tt;
  inodes = tt;
  spends = spends_places c.self.inside.log c.self.inside.registry.promised (vec_len c.self.inside.spares.kits) c.self.inside.spares.bytes (ap (λ (x : Controller). x.spare) c.self.view_is) 1 c.make_places.new.log c.self.inside.registry.promised c.make_places.ensures.kept c.make_places.ensures.grows (omega arith);
  unspent = λ same. spends_places c.self.inside.log c.self.inside.registry.promised (vec_len c.self.inside.spares.kits) c.self.inside.spares.bytes (ap (λ (x : Controller). x.spare) c.self.view_is) 0 c.make_places.new.log c.self.inside.registry.promised c.make_places.ensures.kept c.make_places.ensures.grows (omega arith);
  floor = (let still = ap (λ (x : Controller). x.looked) c.self.view_is in omega (arith, still));
  was_kept = subst Kept (seen_state c.self.view_is) c.self.invariant.0.all.kept;
  kept = c.self.invariant.0.all.kept;
}

pub returns-in-Some : goal.returns-in-Some
returns-in-Some c =
    let seen = seen_state c.self.view_is in
    let before = c.make_places.ensures.kept ∙ ap (λ (x : Controller). x.log) c.self.view_is in
    let same = sym (ap (λ (l : List Entry). c.args.self.now.log ++ l) (allot_entries c.args.self.now.state c.args.lib c.args.pages c.args.inodes c.allot-result.result _ (sym c.in-Some.is ∙ c.allot_told.ensures))) in
    record {
      step = subst (λ (v : State). Step v (Allot c.args.lib.0 c.args.pages c.args.inodes) (allot_answer c.allot-result.result) c.allot-result.new.self.state) seen c.allot-result.ensures.step;
      logs = record {
        log = ap (λ (l : Logged). l.entries) c.push.ensures ∙ ap (λ (l : List Entry). l ++ entry.Allot c.args.lib c.args.pages c.args.inodes c.in-Some.answer ∷ []) before ∙ same;
        first = ap (λ (x : Controller). x.first) c.self.view_is;
        begun = c.allot-result.ensures.begun ∙ ap (λ (x : Controller). x.begun) c.self.view_is;
      };
      pages = c.allot-result.ensures.pages;
      inodes = c.allot-result.ensures.inodes;
      spends = (let few = c.allot-result.ensures.promised in spends_entry c.self.inside.log c.self.inside.registry.promised (vec_len c.self.inside.spares.kits) c.self.inside.spares.bytes (ap (λ (x : Controller). x.spare) c.self.view_is) 1 c.make_places.new.log c.push.new.self c.allot-result.new.self.promised _ c.make_places.ensures.kept c.make_places.ensures.grows c.push.ensures (omega (arith, few)));
      unspent = λ same.
          let was = ap (λ (es : List Entry). length es) before in
          longer c.args.self.now.log c.make_places.new.log.entries _ _ (ap (λ (l : Logged). l.entries) c.push.ensures) (omega (arith, was)) same;
      floor = (let still = ap (λ (x : Controller). x.looked) c.self.view_is in let more = c.allot-result.ensures.floor in omega (arith, still, more));
      was_kept = subst Kept seen c.self.invariant.0.all.kept;
      kept = c.allot-result.ensures.kept;
    }

pub returns-in_default-allot_told : goal.returns-in_default-allot_told
returns-in_default-allot_told c =
    let seen = seen_state c.self.view_is in
    let before = c.make_places.ensures.kept ∙ ap (λ (x : Controller). x.log) c.self.view_is in
    let same = sym (ap (λ (l : List Entry). c.args.self.now.log ++ l) (allot_entries c.args.self.now.state c.args.lib c.args.pages c.args.inodes c.allot-result.result _ (sym c.in_default-allot_told.is ∙ c.allot_told.ensures))) in
    record {
      step = subst (λ (v : State). Step v (Allot c.args.lib.0 c.args.pages c.args.inodes) (allot_answer c.allot-result.result) c.allot-result.new.self.state) seen c.allot-result.ensures.step;
      logs = record {
        log = before ∙ sym (append-nil c.args.self.now.log) ∙ same;
        first = ap (λ (x : Controller). x.first) c.self.view_is;
        begun = c.allot-result.ensures.begun ∙ ap (λ (x : Controller). x.begun) c.self.view_is;
      };
      pages = c.allot-result.ensures.pages;
      inodes = c.allot-result.ensures.inodes;
      spends = (let few = c.allot-result.ensures.promised in spends_places c.self.inside.log c.self.inside.registry.promised (vec_len c.self.inside.spares.kits) c.self.inside.spares.bytes (ap (λ (x : Controller). x.spare) c.self.view_is) 1 c.make_places.new.log c.allot-result.new.self.promised c.make_places.ensures.kept c.make_places.ensures.grows (omega (arith, few)));
      unspent = λ same. (let few = c.allot-result.ensures.promised in spends_places c.self.inside.log c.self.inside.registry.promised (vec_len c.self.inside.spares.kits) c.self.inside.spares.bytes (ap (λ (x : Controller). x.spare) c.self.view_is) 0 c.make_places.new.log c.allot-result.new.self.promised c.make_places.ensures.kept c.make_places.ensures.grows (omega (arith, few)));
      floor = (let still = ap (λ (x : Controller). x.looked) c.self.view_is in let more = c.allot-result.ensures.floor in omega (arith, still, more));
      was_kept = subst Kept seen c.self.invariant.0.all.kept;
      kept = c.allot-result.ensures.kept;
    }

pub invariant_of-self-in_default-with : goal.invariant_of-self-in_default-with
invariant_of-self-in_default-with c =
    let i = c.self.inside in
    (more_places (image_in i.first.value.superblock i.first.value.pages) i.registry.state i.registry.begun i.registry.promised i.log c.make_places.new.log i.notes c.self.invariant.0 c.make_places.ensures.kept c.make_places.ensures.grows, c.self.invariant.1)

pub invariant_of-self : goal.invariant_of-self
invariant_of-self c =
    let i = c.self.inside in
    (more_places (image_in i.first.value.superblock i.first.value.pages) i.registry.state i.registry.begun i.registry.promised i.log c.make_places.new.log i.notes c.self.invariant.0 c.make_places.ensures.kept c.make_places.ensures.grows, c.self.invariant.1)
