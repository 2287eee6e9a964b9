use Rattle.trio_ctl.proofs.Words.{◌++◌, ◌∙◌, ◌∷◌, ◌≡◌, Controller, Entry, Grant, IsLibrary, IsSomeAnd, Kept, List, Logged, State, Step, [], ap, append-nil, arith, grant_answer, inr, length, lent_by, opened, refl, row_at, subst, sym, vec_len}
use Rattle.std.specs.Prelude.{IfOk}
use Rattle.trio_nodes.specs.declared.entry.Entry.TheVariants as entry
use Rattle.trio_ctl.proofs.Recording.{after_call, grant_entries, if_untold, next_entry, no_more_room, one_more_room}
use Rattle.trio_ctl.proofs.Spending.{longer, spends_entry, spends_places}
use Rattle.trio_ctl.proofs.Views.{seen_idle, seen_state}
use Rattle.trio_ctl.proofs.ctl.Ctl.grant.Goals as goal

pub grant-result-requires-clause-entry : goal.grant-result-requires-clause-entry
grant-result-requires-clause-entry c = next_entry _ _ _ _ _ _ _ _ c.self.invariant.0 c.len.ensures c.make_places.ensures.kept

pub invariant_of-self-in-Some : goal.invariant_of-self-in-Some
invariant_of-self-in-Some c =
    let i = c.self.inside in
    let s = i.registry.state in
    let lib = c.args.lib in
    let e = entry.Grant lib c.args.ino c.args.kind c.in-Some.answer in
    let library = subst (λ (v : State). IsLibrary v.creds lib.0) (sym (seen_state c.self.view_is)) c.requires.library in
    let told = sym c.in-Some.is ∙ c.grant_told.ensures in
    let pushed = ap (λ (l : Logged). l.entries) c.push.ensures ∙ ap (λ (l : List Entry). l ++ e ∷ []) c.make_places.ensures.kept ∙ sym (ap (λ (l : List Entry). i.log.entries ++ l) (grant_entries s lib c.args.ino c.args.kind c.grant-result.result _ told)) in
    let places = rw (c.promised.ensures) at c.in-Ok.ensures.room in (
      after_call _ s c.grant-result.new.self.state i.registry.begun c.grant-result.new.self.begun i.registry.promised c.grant-result.new.self.promised i.log c.push.new.self i.notes (Grant lib.0 c.args.ino c.args.kind) _ c.self.invariant.0 c.grant-result.ensures.was_kept (seen_idle c.args.lib.0 c.self.view_is c.requires.idle) c.grant-result.ensures.begun library tt tt c.grant-result.ensures.step tt pushed
          (rw c.push.ensures (one_more_room c.make_places.new.log.entries e i.registry.promised c.grant-result.new.self.promised c.make_places.new.log.room places c.grant-result.ensures.promised)),
      c.self.invariant.1,
    )

pub invariant_of-self-in_default-grant_told : goal.invariant_of-self-in_default-grant_told
invariant_of-self-in_default-grant_told c =
    let i = c.self.inside in
    let s = i.registry.state in
    let lib = c.args.lib in
    let library = subst (λ (v : State). IsLibrary v.creds lib.0) (sym (seen_state c.self.view_is)) c.requires.library in
    let told = sym c.in_default-grant_told.is ∙ c.grant_told.ensures in
    let same = c.make_places.ensures.kept ∙ sym (append-nil i.log.entries) ∙ sym (ap (λ (l : List Entry). i.log.entries ++ l) (grant_entries s lib c.args.ino c.args.kind c.grant-result.result _ told)) in
    let places = rw (c.promised.ensures) at c.in-Ok.ensures.room in (
      after_call _ s c.grant-result.new.self.state i.registry.begun c.grant-result.new.self.begun i.registry.promised c.grant-result.new.self.promised i.log c.make_places.new.log i.notes (Grant lib.0 c.args.ino c.args.kind) _ c.self.invariant.0 c.grant-result.ensures.was_kept (seen_idle c.args.lib.0 c.self.view_is c.requires.idle) c.grant-result.ensures.begun library tt tt c.grant-result.ensures.step tt same
          (no_more_room c.make_places.new.log.entries i.registry.promised c.grant-result.new.self.promised c.make_places.new.log.room places c.grant-result.ensures.promised),
      c.self.invariant.1,
    )

pub returns-in_default : goal.returns-in_default
returns-in_default c = record {
  step = inr (refl, refl, seen_state c.self.view_is);
  logs = record {
    log = c.make_places.ensures.kept ∙ ap (λ (x : Controller). x.log) c.self.view_is ∙ sym (append-nil c.args.self.now.log);
    first = ap (λ (x : Controller). x.first) c.self.view_is;
    begun = ap (λ (x : Controller). x.begun) c.self.view_is;
  };
  lease = tt;
  spends = spends_places c.self.inside.log c.self.inside.registry.promised (vec_len c.self.inside.spares.kits) c.self.inside.spares.bytes (ap (λ (x : Controller). x.spare) c.self.view_is) 2 c.make_places.new.log c.self.inside.registry.promised c.make_places.ensures.kept c.make_places.ensures.grows (omega arith);
  unspent = λ same. spends_places c.self.inside.log c.self.inside.registry.promised (vec_len c.self.inside.spares.kits) c.self.inside.spares.bytes (ap (λ (x : Controller). x.spare) c.self.view_is) 0 c.make_places.new.log c.self.inside.registry.promised c.make_places.ensures.kept c.make_places.ensures.grows (omega arith);
  floor = (let still = ap (λ (x : Controller). x.looked) c.self.view_is in omega (arith, still));
  was_kept = subst Kept (seen_state c.self.view_is) c.self.invariant.0.all.kept;
  kept = c.self.invariant.0.all.kept;
}

pub returns-in-Some : goal.returns-in-Some
returns-in-Some c =
    let seen = seen_state c.self.view_is in
    let before = c.make_places.ensures.kept ∙ ap (λ (x : Controller). x.log) c.self.view_is in
    let same = sym (ap (λ (l : List Entry). c.args.self.now.log ++ l) (grant_entries c.args.self.now.state c.args.lib c.args.ino c.args.kind c.grant-result.result _ (sym c.in-Some.is ∙ c.grant_told.ensures))) in
    record {
      step = subst (λ (v : State). Step v (Grant c.args.lib.0 c.args.ino c.args.kind) (grant_answer c.grant-result.result) c.grant-result.new.self.state) seen c.grant-result.ensures.step;
      logs = record {
        log = ap (λ (l : Logged). l.entries) c.push.ensures ∙ ap (λ (l : List Entry). l ++ entry.Grant c.args.lib c.args.ino c.args.kind c.in-Some.answer ∷ []) before ∙ same;
        first = ap (λ (x : Controller). x.first) c.self.view_is;
        begun = c.grant-result.ensures.begun ∙ ap (λ (x : Controller). x.begun) c.self.view_is;
      };
      lease = subst (λ (v : State). IfOk c.grant-result.result (λ lease. IsSomeAnd (row_at v.home c.args.ino) (λ r. lease ≡ lent_by (opened v c.args.lib.0 c.args.ino c.args.kind r)))) seen c.grant-result.ensures.lease;
      spends = (let few = c.grant-result.ensures.promised in spends_entry c.self.inside.log c.self.inside.registry.promised (vec_len c.self.inside.spares.kits) c.self.inside.spares.bytes (ap (λ (x : Controller). x.spare) c.self.view_is) 2 c.make_places.new.log c.push.new.self c.grant-result.new.self.promised _ c.make_places.ensures.kept c.make_places.ensures.grows c.push.ensures (omega (arith, few)));
      unspent = λ same.
          let was = ap (λ (es : List Entry). length es) before in
          longer c.args.self.now.log c.make_places.new.log.entries _ _ (ap (λ (l : Logged). l.entries) c.push.ensures) (omega (arith, was)) same;
      floor = (let still = ap (λ (x : Controller). x.looked) c.self.view_is in let more = c.grant-result.ensures.floor in omega (arith, still, more));
      was_kept = subst Kept seen c.self.invariant.0.all.kept;
      kept = c.grant-result.ensures.kept;
    }

pub returns-in_default-grant_told : goal.returns-in_default-grant_told
returns-in_default-grant_told c =
    let seen = seen_state c.self.view_is in
    let before = c.make_places.ensures.kept ∙ ap (λ (x : Controller). x.log) c.self.view_is in
    let same = sym (ap (λ (l : List Entry). c.args.self.now.log ++ l) (grant_entries c.args.self.now.state c.args.lib c.args.ino c.args.kind c.grant-result.result _ (sym c.in_default-grant_told.is ∙ c.grant_told.ensures))) in
    record {
      step = subst (λ (v : State). Step v (Grant c.args.lib.0 c.args.ino c.args.kind) (grant_answer c.grant-result.result) c.grant-result.new.self.state) seen c.grant-result.ensures.step;
      logs = record {
        log = before ∙ sym (append-nil c.args.self.now.log) ∙ same;
        first = ap (λ (x : Controller). x.first) c.self.view_is;
        begun = c.grant-result.ensures.begun ∙ ap (λ (x : Controller). x.begun) c.self.view_is;
      };
      lease = subst (λ (v : State). IfOk c.grant-result.result (λ lease. IsSomeAnd (row_at v.home c.args.ino) (λ r. lease ≡ lent_by (opened v c.args.lib.0 c.args.ino c.args.kind r)))) seen c.grant-result.ensures.lease;
      spends = (let few = c.grant-result.ensures.promised in spends_places c.self.inside.log c.self.inside.registry.promised (vec_len c.self.inside.spares.kits) c.self.inside.spares.bytes (ap (λ (x : Controller). x.spare) c.self.view_is) 2 c.make_places.new.log c.grant-result.new.self.promised c.make_places.ensures.kept c.make_places.ensures.grows (omega (arith, few)));
      unspent = λ same. (let few : c.grant-result.new.self.promised ≡ c.self.inside.registry.promised = if_untold c.grant-result.result (sym c.in_default-grant_told.is ∙ c.grant_told.ensures) c.grant-result.ensures.unpromised in spends_places c.self.inside.log c.self.inside.registry.promised (vec_len c.self.inside.spares.kits) c.self.inside.spares.bytes (ap (λ (x : Controller). x.spare) c.self.view_is) 0 c.make_places.new.log c.grant-result.new.self.promised c.make_places.ensures.kept c.make_places.ensures.grows (omega (arith, few)));
      floor = (let still = ap (λ (x : Controller). x.looked) c.self.view_is in let more = c.grant-result.ensures.floor in omega (arith, still, more));
      was_kept = subst Kept seen c.self.invariant.0.all.kept;
      kept = c.grant-result.ensures.kept;
    }
