use Rattle.trio_survey.proofs.Words.{◌++◌, ◌-◌, ◌∙◌, ◌∷◌, ◌≡◌, ◌≤◌, AreNamed, DirEntry, [], ap, arith, drop, entry_seen, get_or, get_or_from_slice_get, length, length-drop, listed_seen, map, refl, slice_get_within, subst, sym, take, take_all, vec_len}
use Rattle.trio_survey.proofs.KeptLists.{entry_added, front_push, front_trans, name_added, read_more}
use Rattle.trio_survey.proofs.blocks.KeptBlocks.add.Goals as goal

pub loop-listed-preserved : goal.loop-listed-preserved
loop-listed-preserved c =
    let turn = c.loop-listed.invariant in
    let old = c.args.self.now in
    let n = vec_len old.entries in
    let m = vec_len c.loop-listed.self.entries in
    let i = c.loop-listed.listed-index in
    let x = c.listed-item.result in
    let now = c.loop-listed.self.entries.items in
    let names = c.loop-listed.self.names.names.items in
    let after = c.add.new.self.names.items in
    let added = c.in_ok-name.ensures in
    let e : DirEntry = record { ino = x.entry.ino; name = c.in_ok-name.name; page = x.page; slot = x.slot; kind = x.entry.kind; body = c.in_ok-body.body } in
    let name : get_or after c.in_ok-name.name [] ≡ x.entry.name = get_or_from_slice_get after c.in_ok-name.name x.entry.name [] added.number in
    let seen : entry_seen after e ≡ listed_seen x = rw (name, c.in_ok-body.ensures) refl in
    let few : n ≤ m = omega (arith, turn.len) in
    let whole : m ≡ length now = omega arith in
    let next : c.push.new.self.items ≡ now ++ e ∷ [] = c.in_ok-push.ensures.items in
    record {
      on = record {
        read = turn.on.read;
        numbered = added.numbered;
        names = front_trans old.names.names.items names after turn.on.names added.front;
        entries = rw next (front_trans old.entries.items now (now ++ e ∷ []) turn.on.entries (front_push now e));
      };
      len = omega (arith, turn.len, c.in_ok-push.ensures.len);
      said = rw next (entry_added n m now names after e few whole added.front turn.named ∙ ap (λ l. map (entry_seen names) (drop n now) ++ l ∷ []) seen
          ∙ ap (λ ls. ls ++ listed_seen x ∷ []) turn.said ∙ sym (read_more c.args.entries.now i x (omega arith) c.listed-item.is));
      named = rw next (name_added n m now names after e few whole added.front turn.named (slice_get_within after c.in_ok-name.name x.entry.name added.number));
    }

pub returns-clause-part : goal.returns-clause-part
returns-clause-part c =
    let turn = c.loop-listed.invariant in
    let es = c.loop-listed.self.entries.items in
    let count = length c.args.entries.now in
    let from = c.len-from.result in
    let n = vec_len c.args.self.now.entries in
    let same : n ≡ from = sym c.len-from.ensures in
    let len : length (drop from es) ≡ length es - from = length-drop from es in
    let all : take count (drop from es) ≡ drop from es = take_all count (drop from es) (omega (arith, len, turn.len, same)) in
    record {
      within = omega (arith, turn.len, same);
      named = subst (AreNamed c.loop-listed.self.names.names.items) (sym all) (rw same at turn.named);
    }
