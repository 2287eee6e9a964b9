-- The words that the proofs of this crate share: of the standard library, of the crates below, and of this crate's own definitions.
pub use Rattle.std.proofs.Common.{◌*◌, ◌++◌, ◌+◌, ◌-◌, ◌/◌, ◌<◌, ◌^◌, ◌∙◌, ◌∷◌, ◌≡◌, ◌≢◌, ◌≤◌, Bool, List, None, Option, Some, [], ap, append_assoc, arith, cond, false, get_or, inl, inr, length, min, refl, replicate, rules, set, subst, suc, sym, true, vec_capacity, vec_len, zero, ℕ}
pub use Rattle.std.proofs.lemmas.Bool.{cases_eq, cases_lt, false≢true}
pub use Rattle.std.proofs.lemmas.List.{append-nil, get_or-set_other, get_or-set_same, get_or_past, length-append, set_at}
pub use Rattle.std.proofs.lemmas.Option.{none-some, same_Some, slice_get_within}
pub use Rattle.std.specs.List.{filter, insert, remove}
pub use Rattle.std.specs.Option.{option_map}
pub use Rattle.std.specs.Prelude.{Err, IfSome, IsSome, Ok, Result, is_some, slice_get}
pub use Rattle.std.specs.Str.{bytes_eq}
pub use Rattle.trio_layout.specs.Entries.{slot_bytes}
pub use Rattle.trio_layout.specs.Slot.{slot_of}
pub use Rattle.trio_lists.specs.Lists.{tabulated}
pub use Rattle.trio_auxdir.specs.Places.{place_at, slot_number}
pub use Rattle.trio_auxdir.specs.Slots.{NamesDiffer, has_name, slot_on, slot_with}
pub use Rattle.trio_auxdir.specs.inner.Index.{IsAt, IsGap, IsIndex, IsLess, IsOrder, gap, name_of, nth, nth_name, slot_at}
