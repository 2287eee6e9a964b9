use Rattle.trio_case.proofs.Words.{◌-◌, ◌∙◌, ◌≡◌, [], ap, arith, drop, get_or, get_or_from_slice_get, inl, inr, refl, slice_get_within, sym, take, take_rest, vec_len}
use Rattle.trio_case.proofs.Keeping.{last_is}
use Rattle.trio_case.proofs.entries.add_slot_entry.Goals as goal

pub returns-in-Entry-clause-entries : goal.returns-in-Entry-clause-entries
returns-in-Entry-clause-entries c =
    let bytes = c.args.bytes.now in
    let n = vec_len c.args.entries.now in
    let body : c.copy_from_slice.new.self ≡ drop 192 bytes = c.copy_from_slice.ensures.after ∙ ap (λ n. take (n - 192) (drop 192 bytes)) (sym c.told-bytes) ∙ take_rest bytes 192 in
    let name : get_or c.add-name.new.self.names c.add-name.result [] ≡ c.in-Entry.entry.name = get_or_from_slice_get c.add-name.new.self.names c.add-name.result c.in-Entry.entry.name [] c.add-name.ensures.number in
    let last = ap (drop n) c.add.ensures.added ∙ last_is n c.args.entries.now.items _ (omega arith) in
    rw (← c.in-Entry.ensures.value, last, body, name) refl

pub returns-in-Entry-clause-named : goal.returns-in-Entry-clause-named
returns-in-Entry-clause-named c = λ l i.
    let n = vec_len c.args.entries.now in
    let last = ap (drop n) c.add.ensures.added ∙ last_is n c.args.entries.now.items _ (omega arith) in
    let within = slice_get_within c.add-name.new.self.names c.add-name.result c.in-Entry.entry.name c.add-name.ensures.number in
    elim (rw last at i) [
      | inl same ↦ rw same within
      | inr none ↦ absurd none
    ]
