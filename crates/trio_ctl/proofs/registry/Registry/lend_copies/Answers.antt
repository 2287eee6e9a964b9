use Rattle.trio_ctl.proofs.Words.{◌++◌, ◌∙◌, ◌∷◌, ◌≡◌, AllBelow, Core, CoreRange, Entries, IsLendable, IsOk, None, OpenGrant, Opened, Read, ReadLent, Registered, Some, State, Store, [], ap, arith, as_row, chain_in, core_of, denial, grant_on, length, refl, row_at, shown_of, subst, sym, inr}
use Rattle.trio_ctl.proofs.Views.{next_is, state_is}
use Rattle.trio_ctl.proofs.Granting.{refused_step, stands_somewhere, body_is, chain, chain_home, lendable, grant_made, plain_controlled, plain_step, controlled_still}
use Rattle.trio_ctl.proofs.Seen.{looked_again, looked_is, promised_most, state_still}
use Rattle.trio_ctl.proofs.registry.Registry.lend_copies.Goals as goal

pub settled_body-requires : goal.settled_body-requires
settled_body-requires c = λ other.
    let i = c.self.inside in
    let r = as_row c.args.row.now in
    let live = subst (λ (v : State). row_at v.home c.args.ino ≡ Some r) (sym (state_is c.self.view_is)) c.requires.live in
    let may = subst (λ (v : State). denial v c.args.lib.0 c.args.ino Read ≡ None) (sym (state_is c.self.view_is)) c.requires.may in
    stands_somewhere i.store i.first_core i.grants i.files.items i.libs.items i.history i.begun.items c.self.invariant c.args.ino r live other

pub copied_file-requires-clause-chain : goal.copied_file-requires-clause-chain
copied_file-requires-clause-chain c =
    let i = c.self.inside in
    let r = as_row c.args.row.now in
    let live = subst (λ (v : State). row_at v.home c.args.ino ≡ Some r) (sym (state_is c.self.view_is)) c.requires.live in
    let may = subst (λ (v : State). denial v c.args.lib.0 c.args.ino Read ≡ None) (sym (state_is c.self.view_is)) c.requires.may in
    let body = c.settled_body.ensures.body ∙ body_is i.store i.first_core i.grants i.files.items i.libs.items i.history i.begun.items c.self.invariant c.args.ino r live in
    let range : CoreRange = record { first = i.first_core; end = length i.store.home.pages } in
    let ranges = c.range-range.ensures ∙ ap (λ (v : State). v.home.core.range) (sym (state_is c.self.view_is)) in
    let cores : core_of c.settled_body.new.store.home.pages c.range-range.result ≡ core_of i.store.home.pages range = ap (core_of c.settled_body.new.store.home.pages) ranges ∙ ap (λ ps. core_of ps range) c.settled_body.ensures.pages in
    let free = c.in-Ok-admit.ensures.answer in
    let read = ap (λ (k : Core). chain_in k r.kind c.settled_body.result) cores ∙ chain_home i.store i.first_core i.grants i.files.items i.libs.items i.history i.begun.items c.self.invariant Read c.args.lib c.args.ino r live free c.settled_body.result body in
    subst IsOk (sym read) refl

pub copied_file-requires-clause-lendable : goal.copied_file-requires-clause-lendable
copied_file-requires-clause-lendable c =
    let i = c.self.inside in
    let r = as_row c.args.row.now in
    let live = subst (λ (v : State). row_at v.home c.args.ino ≡ Some r) (sym (state_is c.self.view_is)) c.requires.live in
    let may = subst (λ (v : State). denial v c.args.lib.0 c.args.ino Read ≡ None) (sym (state_is c.self.view_is)) c.requires.may in
    let body = c.settled_body.ensures.body ∙ body_is i.store i.first_core i.grants i.files.items i.libs.items i.history i.begun.items c.self.invariant c.args.ino r live in
    let range : CoreRange = record { first = i.first_core; end = length i.store.home.pages } in
    let ranges = c.range-range.ensures ∙ ap (λ (v : State). v.home.core.range) (sym (state_is c.self.view_is)) in
    let cores : core_of c.settled_body.new.store.home.pages c.range-range.result ≡ core_of i.store.home.pages range = ap (core_of c.settled_body.new.store.home.pages) ranges ∙ ap (λ ps. core_of ps range) c.settled_body.ensures.pages in
    let free = c.in-Ok-admit.ensures.answer in
    λ x e. subst (λ (k : Core). IsLendable k x) (sym cores) (lendable i.store i.first_core i.grants i.files.items i.libs.items i.history i.begun.items c.self.invariant Read c.args.lib c.args.ino r live free c.settled_body.result x body (sym (ap (λ (k : Core). chain_in k r.kind c.settled_body.result) cores) ∙ e))

pub invariant_of-self-in-Ok-copied_file : goal.invariant_of-self-in-Ok-copied_file
invariant_of-self-in-Ok-copied_file c =
    let i = c.self.inside in
    let r = as_row c.args.row.now in
    let live = subst (λ (v : State). row_at v.home c.args.ino ≡ Some r) (sym (state_is c.self.view_is)) c.requires.live in
    let may = subst (λ (v : State). denial v c.args.lib.0 c.args.ino Read ≡ None) (sym (state_is c.self.view_is)) c.requires.may in
    let body = c.settled_body.ensures.body ∙ body_is i.store i.first_core i.grants i.files.items i.libs.items i.history i.begun.items c.self.invariant c.args.ino r live in
    let range : CoreRange = record { first = i.first_core; end = length i.store.home.pages } in
    let ranges = c.range-range.ensures ∙ ap (λ (v : State). v.home.core.range) (sym (state_is c.self.view_is)) in
    let cores : core_of c.settled_body.new.store.home.pages c.range-range.result ≡ core_of i.store.home.pages range = ap (core_of c.settled_body.new.store.home.pages) ranges ∙ ap (λ ps. core_of ps range) c.settled_body.ensures.pages in
    let free = c.in-Ok-admit.ensures.answer in
    let ch = chain i.store i.first_core i.grants i.files.items i.libs.items i.history i.begun.items c.self.invariant Read c.args.lib c.args.ino r live free in
    let read = ap (λ (k : Core). chain_in k r.kind c.settled_body.result) cores ∙ chain_home i.store i.first_core i.grants i.files.items i.libs.items i.history i.begun.items c.self.invariant Read c.args.lib c.args.ino r live free c.settled_body.result body in
    let key = c.in-Ok-admit.key in
    let copy = c.in-Ok-copied_file.copy in
    let made = c.in-Ok-copied_file.ensures.opened ch read
    ∙ ap (λ (k : Core). record { key = key; grant = grant_on k c.args.lib.0 c.args.ino Read r.kind c.args.entry c.settled_body.result ch }) cores
    ∙ ap (λ n. record { key = key; grant = grant_on (core_of i.store.home.pages range) c.args.lib.0 c.args.ino Read r.kind n c.settled_body.result ch }) (next_is c.requires.entry c.self.view_is)
    ∙ ap (λ (g : OpenGrant). record { key = key; grant = g }) (grant_made i.store i.first_core i.grants i.files.items i.libs.items i.history i.begun.items c.self.invariant Read c.args.lib c.args.ino r live free c.settled_body.result body) in
    let pages = c.copied_file.ensures.pages ∙ c.settled_body.ensures.pages in
    let rest = ap (λ (t : Store). record t { home = c.copied_file.new.home }) c.settled_body.ensures.rest in
    let more = c.push_reserved.ensures.items ∙ ap (λ fs. fs ++ copy.0 ∷ []) c.in-Ok-reserve.ensures.items in
    let counted = ap (λ (n : Entries). n.made) c.enter_with_promise.ensures in
    let put = subst (λ n. AllBelow n i.grants → c.admit.new.grants ≡ i.grants ++ (key, record { lib = c.args.lib; ino = c.args.ino; kind = Read; entry = n }) ∷ []) (next_is c.requires.entry c.self.view_is) c.in-Ok-admit.ensures.opened in
    plain_controlled i.store i.first_core i.grants i.files.items i.libs.items i.history i.begun.items c.self.invariant Read refl c.args.lib c.args.ino r live free key copy.0 _ c.admit.new.grants c.push_reserved.new.self.items c.enter_with_promise.new.self made pages rest more counted 0 refl may put c.in-Ok-admit.ensures.new_key (ap (λ (n : Entries). n.promised) c.enter_with_promise.ensures)

pub invariant_of-self-in-Err-copied_file : goal.invariant_of-self-in-Err-copied_file
invariant_of-self-in-Err-copied_file c =
    let i = c.self.inside in
    let rest = ap (λ (t : Store). record t { home = c.copied_file.new.home }) c.settled_body.ensures.rest in
    controlled_still i.store i.first_core i.grants i.files.items i.libs.items i.history i.begun.items c.self.invariant _ c.end.new.self c.reserve.new.self.items rest (c.copied_file.ensures.pages ∙ c.settled_body.ensures.pages) (c.end.ensures.ended ∙ c.in-Ok-admit.ensures.rest) c.in-Ok-reserve.ensures.items

pub returns-in-Ok-copied_file : goal.returns-in-Ok-copied_file
returns-in-Ok-copied_file c =
    let i = c.self.inside in
    let r = as_row c.args.row.now in
    let live = subst (λ (v : State). row_at v.home c.args.ino ≡ Some r) (sym (state_is c.self.view_is)) c.requires.live in
    let may = subst (λ (v : State). denial v c.args.lib.0 c.args.ino Read ≡ None) (sym (state_is c.self.view_is)) c.requires.may in
    let body = c.settled_body.ensures.body ∙ body_is i.store i.first_core i.grants i.files.items i.libs.items i.history i.begun.items c.self.invariant c.args.ino r live in
    let range : CoreRange = record { first = i.first_core; end = length i.store.home.pages } in
    let ranges = c.range-range.ensures ∙ ap (λ (v : State). v.home.core.range) (sym (state_is c.self.view_is)) in
    let cores : core_of c.settled_body.new.store.home.pages c.range-range.result ≡ core_of i.store.home.pages range = ap (core_of c.settled_body.new.store.home.pages) ranges ∙ ap (λ ps. core_of ps range) c.settled_body.ensures.pages in
    let free = c.in-Ok-admit.ensures.answer in
    let ch = chain i.store i.first_core i.grants i.files.items i.libs.items i.history i.begun.items c.self.invariant Read c.args.lib c.args.ino r live free in
    let read = ap (λ (k : Core). chain_in k r.kind c.settled_body.result) cores ∙ chain_home i.store i.first_core i.grants i.files.items i.libs.items i.history i.begun.items c.self.invariant Read c.args.lib c.args.ino r live free c.settled_body.result body in
    let key = c.in-Ok-admit.key in
    let copy = c.in-Ok-copied_file.copy in
    let made = c.in-Ok-copied_file.ensures.opened ch read
    ∙ ap (λ (k : Core). record { key = key; grant = grant_on k c.args.lib.0 c.args.ino Read r.kind c.args.entry c.settled_body.result ch }) cores
    ∙ ap (λ n. record { key = key; grant = grant_on (core_of i.store.home.pages range) c.args.lib.0 c.args.ino Read r.kind n c.settled_body.result ch }) (next_is c.requires.entry c.self.view_is)
    ∙ ap (λ (g : OpenGrant). record { key = key; grant = g }) (grant_made i.store i.first_core i.grants i.files.items i.libs.items i.history i.begun.items c.self.invariant Read c.args.lib c.args.ino r live free c.settled_body.result body) in
    let pages = c.copied_file.ensures.pages ∙ c.settled_body.ensures.pages in
    let rest = ap (λ (t : Store). record t { home = c.copied_file.new.home }) c.settled_body.ensures.rest in
    let more = c.push_reserved.ensures.items ∙ ap (λ fs. fs ++ copy.0 ∷ []) c.in-Ok-reserve.ensures.items in
    let counted = ap (λ (n : Entries). n.made) c.enter_with_promise.ensures in
    record {
      step =
          rw (← (state_is c.self.view_is))
          (plain_step i.store i.first_core i.grants i.files.items i.libs.items i.history i.begun.items c.self.invariant Read refl c.args.lib c.args.ino r live free key copy.0 _ c.admit.new.grants c.push_reserved.new.self.items c.enter_with_promise.new.self made pages rest more counted 0 refl may);
      lease =
          rw (← (state_is c.self.view_is))
          (ap ReadLent (c.in-Ok-copied_file.ensures.lease ∙ ap (λ (o : Opened). shown_of o.grant) made));
      begun = ap (λ (x : Registered). x.begun) c.self.view_is;
      promised = (let new = ap (λ (e : Entries). e.promised) c.enter_with_promise.ensures in let old = ap (λ (x : Registered). x.promised) c.self.view_is in omega (arith, new, old));
      unpromised = tt;
      floor = (let old = ap (λ (x : Registered). x.looked) c.self.view_is in omega (arith, old, c.settled_body.ensures.floor, c.copied_file.ensures.floor));
    }

pub invariant_of-self-in-Err : goal.invariant_of-self-in-Err
invariant_of-self-in-Err c =
    let i = c.self.inside in
    controlled_still i.store i.first_core i.grants i.files.items i.libs.items i.history i.begun.items c.self.invariant _ c.admit.new.grants c.reserve.new.self.items refl refl c.in-Err.ensures.kept c.in-Ok-reserve.ensures.items

pub invariant_of-self : goal.invariant_of-self
invariant_of-self c =
    let i = c.self.inside in
    controlled_still i.store i.first_core i.grants i.files.items i.libs.items i.history i.begun.items c.self.invariant _ i.grants c.reserve.new.self.items refl refl refl c.reserve.ensures.items

pub returns-in_default-reserve : goal.returns-in_default-reserve
returns-in_default-reserve c =
    let i = c.self.inside in
    record {
      step = inr (refl, refl, state_still i.store i.store i.first_core i.files.items c.reserve.new.self.items i.libs.items i.history.made refl refl c.reserve.ensures.items ∙ state_is c.self.view_is);
      lease = tt;
      begun = ap (λ (x : Registered). x.begun) c.self.view_is;
      promised = promised_most c.self.view_is;
      unpromised = ap (λ (x : Registered). x.promised) c.self.view_is;
      floor = looked_is c.self.view_is;
    }

pub returns-in-Err : goal.returns-in-Err
returns-in-Err c =
    let i = c.self.inside in
    let r = as_row c.args.row.now in
    let live = subst (λ (v : State). row_at v.home c.args.ino ≡ Some r) (sym (state_is c.self.view_is)) c.requires.live in
    let may = subst (λ (v : State). denial v c.args.lib.0 c.args.ino Read ≡ None) (sym (state_is c.self.view_is)) c.requires.may in
    record {
      step =
          rw (← (state_is c.self.view_is), c.in-Ok-reserve.ensures.items)
          (refused_step i.store i.first_core i.grants i.files.items i.libs.items i.history i.begun.items c.self.invariant Read c.args.lib c.args.ino r c.in-Err.fault live may c.in-Err.ensures.answer);
      lease = tt;
      begun = ap (λ (x : Registered). x.begun) c.self.view_is;
      promised = promised_most c.self.view_is;
      unpromised = ap (λ (x : Registered). x.promised) c.self.view_is;
      floor = looked_is c.self.view_is;
    }

pub returns-in-Err-copied_file : goal.returns-in-Err-copied_file
returns-in-Err-copied_file c =
    let i = c.self.inside in
    let rest = ap (λ (t : Store). record t { home = c.copied_file.new.home }) c.settled_body.ensures.rest in
    record {
      step = inr (refl, refl, state_still i.store (record c.settled_body.new.store { home = c.copied_file.new.home }) i.first_core i.files.items c.reserve.new.self.items i.libs.items i.history.made rest (c.copied_file.ensures.pages ∙ c.settled_body.ensures.pages) c.in-Ok-reserve.ensures.items ∙ state_is c.self.view_is);
      lease = tt;
      begun = ap (λ (x : Registered). x.begun) c.self.view_is;
      promised = promised_most c.self.view_is;
      unpromised = ap (λ (x : Registered). x.promised) c.self.view_is;
      floor = looked_again c.self.view_is c.settled_body.ensures.floor c.copied_file.ensures.floor;
    }

pub push_reserved-requires : goal.push_reserved-requires
push_reserved-requires c = (let room = c.in-Ok-reserve.ensures.ok in omega (arith, room))
