use Rattle.trio_ctl.proofs.Words.{◌++◌, ◌∙◌, ◌∷◌, ◌≡◌, AllBelow, Entries, Hold, HoldParts, List, None, Opened, Registered, Some, State, Store, [], ap, arith, as_row, denial, grants_in, refl, row_at, settled, settled_body, state_of, subst, sym, ℕ, inr}
use Rattle.trio_lease.specs.declared.lease.Lease.TheVariants.{Hold as HoldLent}
use Rattle.trio_ctl.proofs.Views.{next_is, state_is}
use Rattle.trio_ctl.proofs.Granting.{refused_step, stands_somewhere, body_is, plain_controlled, plain_step, controlled_still}
use Rattle.trio_tables.specs.Tables.{child_count}
use Rattle.trio_ctl.proofs.Seen.{looked_is, state_still}
use Rattle.trio_ctl.proofs.registry.Registry.lend_hold.Goals as goal

pub settled_body-requires : goal.settled_body-requires
settled_body-requires c = λ other.
    let i = c.self.inside in
    let r = as_row c.args.row.now in
    let live = subst (λ (v : State). row_at v.home c.args.ino ≡ Some r) (sym (state_is c.self.view_is)) c.requires.live in
    let may = subst (λ (v : State). denial v c.args.lib.0 c.args.ino Hold ≡ None) (sym (state_is c.self.view_is)) c.requires.may in
    stands_somewhere i.store i.first_core i.grants i.files.items i.libs.items i.history i.begun.items c.self.invariant c.args.ino r live other

pub invariant_of-self-2 : goal.invariant_of-self-2
invariant_of-self-2 c =
    let i = c.self.inside in
    let r = as_row c.args.row.now in
    let live = subst (λ (v : State). row_at v.home c.args.ino ≡ Some r) (sym (state_is c.self.view_is)) c.requires.live in
    let may = subst (λ (v : State). denial v c.args.lib.0 c.args.ino Hold ≡ None) (sym (state_is c.self.view_is)) c.requires.may in
    let body = c.settled_body.ensures.body ∙ body_is i.store i.first_core i.grants i.files.items i.libs.items i.history i.begun.items c.self.invariant c.args.ino r live in
    let free = c.in-Ok-admit.ensures.answer in
    let key = c.in-Ok-admit.key in
    let file = c.of.result in
    let H : ℕ → List ℕ → ℕ → Opened = λ n b m. record { key = key; grant = record { lib = c.args.lib.0; ino = c.args.ino; kind = Hold; of = r.kind; entry = n; body = b; index = []; blocks = []; parent = r.parent; children = m; checkpoint = [] } } in
    let counted_children = c.children.ensures ∙ ap (λ (t : Store). child_count c.args.ino t.rows) c.settled_body.ensures.rest in
    let at_home : List ℕ = settled_body (settled (state_of i.store i.first_core (grants_in i.files.items) i.libs.items i.history.made)) c.args.ino in
    let first = rw c.copied.ensures at c.of.ensures in
    let made = first ∙ ap (λ n. H n c.settled_body.result c.children.result) (next_is c.requires.entry c.self.view_is) ∙ ap (λ b. H i.history.made b c.children.result) body ∙ ap (H i.history.made at_home) counted_children in
    let rest = ap (λ (t : Store). record t { home = c.settled_body.new.store.home }) c.settled_body.ensures.rest in
    let more = c.push_reserved.ensures.items ∙ ap (λ fs. fs ++ file ∷ []) c.in-Ok-reserve.ensures.items in
    let counted = ap (λ (n : Entries). n.made) c.enter.ensures in
    let put = subst (λ n. AllBelow n i.grants → c.admit.new.grants ≡ i.grants ++ (key, record { lib = c.args.lib; ino = c.args.ino; kind = Hold; entry = n }) ∷ []) (next_is c.requires.entry c.self.view_is) c.in-Ok-admit.ensures.opened in
    plain_controlled i.store i.first_core i.grants i.files.items i.libs.items i.history i.begun.items c.self.invariant Hold refl c.args.lib c.args.ino r live free key file _ c.admit.new.grants c.push_reserved.new.self.items c.enter.new.self made c.settled_body.ensures.pages c.settled_body.ensures.rest more counted c.children.result counted_children may put c.in-Ok-admit.ensures.new_key (ap (λ (n : Entries). n.promised) c.enter.ensures)

pub returns : goal.returns
returns c =
    let i = c.self.inside in
    let r = as_row c.args.row.now in
    let live = subst (λ (v : State). row_at v.home c.args.ino ≡ Some r) (sym (state_is c.self.view_is)) c.requires.live in
    let may = subst (λ (v : State). denial v c.args.lib.0 c.args.ino Hold ≡ None) (sym (state_is c.self.view_is)) c.requires.may in
    let body = c.settled_body.ensures.body ∙ body_is i.store i.first_core i.grants i.files.items i.libs.items i.history i.begun.items c.self.invariant c.args.ino r live in
    let free = c.in-Ok-admit.ensures.answer in
    let key = c.in-Ok-admit.key in
    let file = c.of.result in
    let H : ℕ → List ℕ → ℕ → Opened = λ n b m. record { key = key; grant = record { lib = c.args.lib.0; ino = c.args.ino; kind = Hold; of = r.kind; entry = n; body = b; index = []; blocks = []; parent = r.parent; children = m; checkpoint = [] } } in
    let counted_children = c.children.ensures ∙ ap (λ (t : Store). child_count c.args.ino t.rows) c.settled_body.ensures.rest in
    let at_home : List ℕ = settled_body (settled (state_of i.store i.first_core (grants_in i.files.items) i.libs.items i.history.made)) c.args.ino in
    let first = rw c.copied.ensures at c.of.ensures in
    let made = first ∙ ap (λ n. H n c.settled_body.result c.children.result) (next_is c.requires.entry c.self.view_is) ∙ ap (λ b. H i.history.made b c.children.result) body ∙ ap (H i.history.made at_home) counted_children in
    let rest = ap (λ (t : Store). record t { home = c.settled_body.new.store.home }) c.settled_body.ensures.rest in
    let more = c.push_reserved.ensures.items ∙ ap (λ fs. fs ++ file ∷ []) c.in-Ok-reserve.ensures.items in
    let counted = ap (λ (n : Entries). n.made) c.enter.ensures in
    let P : ℕ → List ℕ → ℕ → HoldParts = λ n b m. record { lib = c.args.lib; ino = c.args.ino; kind = r.kind; entry = n; parent = r.parent; body = b; children = m } in
    record {
      step =
          rw (← (state_is c.self.view_is))
          (plain_step i.store i.first_core i.grants i.files.items i.libs.items i.history i.begun.items c.self.invariant Hold refl c.args.lib c.args.ino r live free key file _ c.admit.new.grants c.push_reserved.new.self.items c.enter.new.self made c.settled_body.ensures.pages c.settled_body.ensures.rest more counted c.of-2.result.children (ap (λ (h : HoldParts). h.children) c.of-2.ensures ∙ counted_children) may);
      lease =
          rw (← (state_is c.self.view_is))
          (ap HoldLent (c.of-2.ensures ∙ ap (λ n. P n c.settled_body.result c.children.result) (next_is c.requires.entry c.self.view_is) ∙ ap (λ b. P i.history.made b c.children.result) body ∙ ap (P i.history.made (settled_body (settled (state_of i.store i.first_core (grants_in i.files.items) i.libs.items i.history.made)) c.args.ino)) counted_children));
      begun = ap (λ (x : Registered). x.begun) c.self.view_is;
      promised = ap (λ (e : Entries). e.promised) c.enter.ensures ∙ ap (λ (x : Registered). x.promised) c.self.view_is;
      floor = (let old = ap (λ (x : Registered). x.looked) c.self.view_is in omega (arith, old, c.settled_body.ensures.floor));
    }

pub invariant_of-self-in-Err : goal.invariant_of-self-in-Err
invariant_of-self-in-Err c =
    let i = c.self.inside in
    controlled_still i.store i.first_core i.grants i.files.items i.libs.items i.history i.begun.items c.self.invariant _ c.admit.new.grants c.reserve.new.self.items refl refl c.in-Err.ensures.kept c.in-Ok-reserve.ensures.items

pub invariant_of-self : goal.invariant_of-self
invariant_of-self c =
    let i = c.self.inside in
    controlled_still i.store i.first_core i.grants i.files.items i.libs.items i.history i.begun.items c.self.invariant _ i.grants c.reserve.new.self.items refl refl refl c.reserve.ensures.items

pub returns-in_default-reserve : goal.returns-in_default-reserve
returns-in_default-reserve c =
    let i = c.self.inside in
    record {
      step = inr (refl, refl, state_still i.store i.store i.first_core i.files.items c.reserve.new.self.items i.libs.items i.history.made refl refl c.reserve.ensures.items ∙ state_is c.self.view_is);
      lease = tt;
      begun = ap (λ (x : Registered). x.begun) c.self.view_is;
      promised = ap (λ (x : Registered). x.promised) c.self.view_is;
      floor = looked_is c.self.view_is;
    }

pub returns-in-Err : goal.returns-in-Err
returns-in-Err c =
    let i = c.self.inside in
    let r = as_row c.args.row.now in
    let live = subst (λ (v : State). row_at v.home c.args.ino ≡ Some r) (sym (state_is c.self.view_is)) c.requires.live in
    let may = subst (λ (v : State). denial v c.args.lib.0 c.args.ino Hold ≡ None) (sym (state_is c.self.view_is)) c.requires.may in
    record {
      step =
          rw (← (state_is c.self.view_is), c.in-Ok-reserve.ensures.items)
          (refused_step i.store i.first_core i.grants i.files.items i.libs.items i.history i.begun.items c.self.invariant Hold c.args.lib c.args.ino r c.in-Err.fault live may c.in-Err.ensures.answer);
      lease = tt;
      begun = ap (λ (x : Registered). x.begun) c.self.view_is;
      promised = ap (λ (x : Registered). x.promised) c.self.view_is;
      floor = looked_is c.self.view_is;
    }

pub push_reserved-requires : goal.push_reserved-requires
push_reserved-requires c = (let room = c.in-Ok-reserve.ensures.ok in omega (arith, room))
