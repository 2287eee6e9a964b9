use Rattle.trio_ctl.proofs.Words.{◌++◌, ◌∙◌, ◌∷◌, ◌≡◌, AllBelow, Core, CoreRange, Entries, IsLendable, IsOk, None, Registered, Some, State, Store, Write, WriteLent, [], ap, arith, as_row, chain_in, core_of, denial, grant_on, length, refl, row_at, slice_set, subst, sym, without_checkpoint, without_pages, inr}
use Rattle.std.specs.Vec.{with_item}
use Rattle.trio_ctl.proofs.Views.{next_is, state_is}
use Rattle.trio_ctl.proofs.Granting.{refused_step, stands_somewhere, body_is, chain, chain_home, lendable, granted_controlled, granted_step, lease_made, controlled_still}
use Rattle.trio_ctl.proofs.Seen.{looked_again, looked_is, state_still}
use Rattle.trio_ctl.proofs.registry.Registry.lend_file.Goals as goal

pub settled_body-requires : goal.settled_body-requires
settled_body-requires c = λ other.
    let i = c.self.inside in
    let r = as_row c.args.row.now in
    let live = subst (λ (v : State). row_at v.home c.args.ino ≡ Some r) (sym (state_is c.self.view_is)) c.requires.live in
    stands_somewhere i.store i.first_core i.grants i.files.items i.libs.items i.history i.begun.items c.self.invariant c.args.ino r live other

pub lend-requires-clause-chain : goal.lend-requires-clause-chain
lend-requires-clause-chain c =
    let i = c.self.inside in
    let r = as_row c.args.row.now in
    let live = subst (λ (v : State). row_at v.home c.args.ino ≡ Some r) (sym (state_is c.self.view_is)) c.requires.live in
    let body = c.settled_body.ensures.body ∙ body_is i.store i.first_core i.grants i.files.items i.libs.items i.history i.begun.items c.self.invariant c.args.ino r live in
    let range : CoreRange = record { first = i.first_core; end = length i.store.home.pages } in
    let ranges = c.range-range.ensures ∙ ap (λ (v : State). v.home.core.range) (sym (state_is c.self.view_is)) in
    let cores : core_of c.settled_body.new.store.home.pages c.range-range.result ≡ core_of i.store.home.pages range = ap (core_of c.settled_body.new.store.home.pages) ranges ∙ ap (λ ps. core_of ps range) c.settled_body.ensures.pages in
    let free = c.in-Ok-admit.ensures.answer in
    let read' = ap (λ (k : Core). chain_in k r.kind c.settled_body.result) cores ∙ chain_home i.store i.first_core i.grants i.files.items i.libs.items i.history i.begun.items c.self.invariant Write c.args.lib c.args.ino r live free c.settled_body.result body in
    subst IsOk (sym read') refl

pub lend-requires-clause-lendable : goal.lend-requires-clause-lendable
lend-requires-clause-lendable c =
    let i = c.self.inside in
    let r = as_row c.args.row.now in
    let live = subst (λ (v : State). row_at v.home c.args.ino ≡ Some r) (sym (state_is c.self.view_is)) c.requires.live in
    let body = c.settled_body.ensures.body ∙ body_is i.store i.first_core i.grants i.files.items i.libs.items i.history i.begun.items c.self.invariant c.args.ino r live in
    let range : CoreRange = record { first = i.first_core; end = length i.store.home.pages } in
    let ranges = c.range-range.ensures ∙ ap (λ (v : State). v.home.core.range) (sym (state_is c.self.view_is)) in
    let cores : core_of c.settled_body.new.store.home.pages c.range-range.result ≡ core_of i.store.home.pages range = ap (core_of c.settled_body.new.store.home.pages) ranges ∙ ap (λ ps. core_of ps range) c.settled_body.ensures.pages in
    let free = c.in-Ok-admit.ensures.answer in
    λ x e. subst (λ (k : Core). IsLendable k x) (sym cores) (lendable i.store i.first_core i.grants i.files.items i.libs.items i.history i.begun.items c.self.invariant Write c.args.lib c.args.ino r live free c.settled_body.result x body (sym (ap (λ (k : Core). chain_in k r.kind c.settled_body.result) cores) ∙ e))

pub invariant_of-self-in-Ok-lend : goal.invariant_of-self-in-Ok-lend
invariant_of-self-in-Ok-lend c =
    let i = c.self.inside in
    let r = as_row c.args.row.now in
    let live = subst (λ (v : State). row_at v.home c.args.ino ≡ Some r) (sym (state_is c.self.view_is)) c.requires.live in
    let may = subst (λ (v : State). denial v c.args.lib.0 c.args.ino Write ≡ None) (sym (state_is c.self.view_is)) c.requires.may in
    let body = c.settled_body.ensures.body ∙ body_is i.store i.first_core i.grants i.files.items i.libs.items i.history i.begun.items c.self.invariant c.args.ino r live in
    let range : CoreRange = record { first = i.first_core; end = length i.store.home.pages } in
    let ranges = c.range-range.ensures ∙ ap (λ (v : State). v.home.core.range) (sym (state_is c.self.view_is)) in
    let cores : core_of c.settled_body.new.store.home.pages c.range-range.result ≡ core_of i.store.home.pages range = ap (core_of c.settled_body.new.store.home.pages) ranges ∙ ap (λ ps. core_of ps range) c.settled_body.ensures.pages in
    let free = c.in-Ok-admit.ensures.answer in
    let ch = chain i.store i.first_core i.grants i.files.items i.libs.items i.history i.begun.items c.self.invariant Write c.args.lib c.args.ino r live free in
    let read = chain_home i.store i.first_core i.grants i.files.items i.libs.items i.history i.begun.items c.self.invariant Write c.args.lib c.args.ino r live free c.settled_body.result body in
    let read' = ap (λ (k : Core). chain_in k r.kind c.settled_body.result) cores ∙ read in
    let key = c.in-Ok-admit.key in
    let loan = c.in-Ok-lend.loan in
    let made = c.in-Ok-lend.ensures.opened ch read'
    ∙ ap (λ (k : Core). record { key = key; grant = without_checkpoint (grant_on k c.args.lib.0 c.args.ino Write r.kind c.args.entry c.settled_body.result ch) }) cores
    ∙ ap (λ n. record { key = key; grant = without_checkpoint (grant_on (core_of i.store.home.pages range) c.args.lib.0 c.args.ino Write r.kind n c.settled_body.result ch) }) (next_is c.requires.entry c.self.view_is) in
    let gone = c.in-Ok-lend.ensures.pages ch read' ∙ ap (without_pages (ch.index ++ ch.blocks)) c.settled_body.ensures.pages in
    let more = c.push_reserved.ensures.items ∙ ap (λ fs. fs ++ loan.file ∷ []) c.in-Ok-reserve.ensures.items in
    let aside = ap (λ (t : Store). slice_set t.checkpoints.items c.args.ino (Some loan.checkpoint)) c.settled_body.ensures.rest in
    let rest = ap (λ (t : Store). record t { home = c.lend.new.home; checkpoints = with_item c.settled_body.new.store.checkpoints c.args.ino (Some loan.checkpoint) }) c.settled_body.ensures.rest in
    let put = subst (λ n. AllBelow n i.grants → c.admit.new.grants ≡ i.grants ++ (key, record { lib = c.args.lib; ino = c.args.ino; kind = Write; entry = n }) ∷ []) (next_is c.requires.entry c.self.view_is) c.in-Ok-admit.ensures.opened in
    granted_controlled i.store i.first_core i.grants i.files.items i.libs.items i.history i.begun.items c.self.invariant c.args.lib c.args.ino r live free key c.settled_body.result body loan.file loan.checkpoint _ c.admit.new.grants c.push_reserved.new.self.items c.enter.new.self made c.in-Ok-lend.ensures.covered gone rest aside more c.enter.ensures may put c.in-Ok-admit.ensures.new_key c.in-Ok-lend.ensures.covers

pub invariant_of-self-in-Err-lend : goal.invariant_of-self-in-Err-lend
invariant_of-self-in-Err-lend c =
    let i = c.self.inside in
    let rest = ap (λ (t : Store). record t { home = c.lend.new.home }) c.settled_body.ensures.rest in
    controlled_still i.store i.first_core i.grants i.files.items i.libs.items i.history i.begun.items c.self.invariant _ c.end.new.self c.reserve.new.self.items rest (c.in-Err-lend.ensures.kept ∙ c.settled_body.ensures.pages) (c.end.ensures.ended ∙ c.in-Ok-admit.ensures.rest) c.in-Ok-reserve.ensures.items

pub returns-in-Ok-lend : goal.returns-in-Ok-lend
returns-in-Ok-lend c =
    let i = c.self.inside in
    let r = as_row c.args.row.now in
    let live = subst (λ (v : State). row_at v.home c.args.ino ≡ Some r) (sym (state_is c.self.view_is)) c.requires.live in
    let may = subst (λ (v : State). denial v c.args.lib.0 c.args.ino Write ≡ None) (sym (state_is c.self.view_is)) c.requires.may in
    let body = c.settled_body.ensures.body ∙ body_is i.store i.first_core i.grants i.files.items i.libs.items i.history i.begun.items c.self.invariant c.args.ino r live in
    let range : CoreRange = record { first = i.first_core; end = length i.store.home.pages } in
    let ranges = c.range-range.ensures ∙ ap (λ (v : State). v.home.core.range) (sym (state_is c.self.view_is)) in
    let cores : core_of c.settled_body.new.store.home.pages c.range-range.result ≡ core_of i.store.home.pages range = ap (core_of c.settled_body.new.store.home.pages) ranges ∙ ap (λ ps. core_of ps range) c.settled_body.ensures.pages in
    let free = c.in-Ok-admit.ensures.answer in
    let ch = chain i.store i.first_core i.grants i.files.items i.libs.items i.history i.begun.items c.self.invariant Write c.args.lib c.args.ino r live free in
    let read = chain_home i.store i.first_core i.grants i.files.items i.libs.items i.history i.begun.items c.self.invariant Write c.args.lib c.args.ino r live free c.settled_body.result body in
    let read' = ap (λ (k : Core). chain_in k r.kind c.settled_body.result) cores ∙ read in
    let key = c.in-Ok-admit.key in
    let loan = c.in-Ok-lend.loan in
    let made = c.in-Ok-lend.ensures.opened ch read'
    ∙ ap (λ (k : Core). record { key = key; grant = without_checkpoint (grant_on k c.args.lib.0 c.args.ino Write r.kind c.args.entry c.settled_body.result ch) }) cores
    ∙ ap (λ n. record { key = key; grant = without_checkpoint (grant_on (core_of i.store.home.pages range) c.args.lib.0 c.args.ino Write r.kind n c.settled_body.result ch) }) (next_is c.requires.entry c.self.view_is) in
    let gone = c.in-Ok-lend.ensures.pages ch read' ∙ ap (without_pages (ch.index ++ ch.blocks)) c.settled_body.ensures.pages in
    let more = c.push_reserved.ensures.items ∙ ap (λ fs. fs ++ loan.file ∷ []) c.in-Ok-reserve.ensures.items in
    let aside = ap (λ (t : Store). slice_set t.checkpoints.items c.args.ino (Some loan.checkpoint)) c.settled_body.ensures.rest in
    let rest = ap (λ (t : Store). record t { home = c.lend.new.home; checkpoints = with_item c.settled_body.new.store.checkpoints c.args.ino (Some loan.checkpoint) }) c.settled_body.ensures.rest in
    record {
      step =
          rw (← (state_is c.self.view_is))
          (granted_step i.store i.first_core i.grants i.files.items i.libs.items i.history i.begun.items c.self.invariant c.args.lib c.args.ino r live free key c.settled_body.result body loan.file loan.checkpoint _ c.admit.new.grants c.push_reserved.new.self.items c.enter.new.self made c.in-Ok-lend.ensures.covered gone rest aside more c.enter.ensures may);
      lease =
          rw (← (state_is c.self.view_is))
          (ap WriteLent (c.in-Ok-lend.ensures.lease ∙ lease_made i.store i.first_core i.grants i.files.items i.libs.items i.history i.begun.items c.self.invariant c.args.lib c.args.ino r live free key c.settled_body.result body loan.file loan.checkpoint _ c.admit.new.grants c.push_reserved.new.self.items c.enter.new.self made c.in-Ok-lend.ensures.covered gone rest aside more c.enter.ensures));
      begun = ap (λ (x : Registered). x.begun) c.self.view_is;
      promised = ap (λ (e : Entries). e.promised) c.enter.ensures ∙ ap (λ (x : Registered). x.promised) c.self.view_is;
      floor = (let old = ap (λ (x : Registered). x.looked) c.self.view_is in omega (arith, old, c.settled_body.ensures.floor, c.lend.ensures.floor));
    }

pub invariant_of-self-in-Err : goal.invariant_of-self-in-Err
invariant_of-self-in-Err c =
    let i = c.self.inside in
    controlled_still i.store i.first_core i.grants i.files.items i.libs.items i.history i.begun.items c.self.invariant _ c.admit.new.grants c.reserve.new.self.items refl refl c.in-Err.ensures.kept c.in-Ok-reserve.ensures.items

pub invariant_of-self : goal.invariant_of-self
invariant_of-self c =
    let i = c.self.inside in
    controlled_still i.store i.first_core i.grants i.files.items i.libs.items i.history i.begun.items c.self.invariant _ i.grants c.reserve.new.self.items refl refl refl c.reserve.ensures.items

pub returns-in_default-reserve : goal.returns-in_default-reserve
returns-in_default-reserve c =
    let i = c.self.inside in
    record {
      step = inr (refl, refl, state_still i.store i.store i.first_core i.files.items c.reserve.new.self.items i.libs.items i.history.made refl refl c.reserve.ensures.items ∙ state_is c.self.view_is);
      lease = tt;
      begun = ap (λ (x : Registered). x.begun) c.self.view_is;
      promised = ap (λ (x : Registered). x.promised) c.self.view_is;
      floor = looked_is c.self.view_is;
    }

pub returns-in-Err : goal.returns-in-Err
returns-in-Err c =
    let i = c.self.inside in
    let r = as_row c.args.row.now in
    let live = subst (λ (v : State). row_at v.home c.args.ino ≡ Some r) (sym (state_is c.self.view_is)) c.requires.live in
    let may = subst (λ (v : State). denial v c.args.lib.0 c.args.ino Write ≡ None) (sym (state_is c.self.view_is)) c.requires.may in
    record {
      step =
          rw (← (state_is c.self.view_is), c.in-Ok-reserve.ensures.items)
          (refused_step i.store i.first_core i.grants i.files.items i.libs.items i.history i.begun.items c.self.invariant Write c.args.lib c.args.ino r c.in-Err.fault live may c.in-Err.ensures.answer);
      lease = tt;
      begun = ap (λ (x : Registered). x.begun) c.self.view_is;
      promised = ap (λ (x : Registered). x.promised) c.self.view_is;
      floor = looked_is c.self.view_is;
    }

pub returns-in-Err-lend : goal.returns-in-Err-lend
returns-in-Err-lend c =
    let i = c.self.inside in
    let rest = ap (λ (t : Store). record t { home = c.lend.new.home }) c.settled_body.ensures.rest in
    record {
      step = inr (refl, refl, state_still i.store (record c.settled_body.new.store { home = c.lend.new.home }) i.first_core i.files.items c.reserve.new.self.items i.libs.items i.history.made rest (c.in-Err-lend.ensures.kept ∙ c.settled_body.ensures.pages) c.in-Ok-reserve.ensures.items ∙ state_is c.self.view_is);
      lease = tt;
      begun = ap (λ (x : Registered). x.begun) c.self.view_is;
      promised = ap (λ (x : Registered). x.promised) c.self.view_is;
      floor = looked_again c.self.view_is c.settled_body.ensures.floor c.lend.ensures.floor;
    }

pub push_reserved-requires : goal.push_reserved-requires
push_reserved-requires c = (let room = c.in-Ok-reserve.ensures.ok in omega (arith, room))
