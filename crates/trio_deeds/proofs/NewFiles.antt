-- A new file has an empty body, which is read again, and is put into a slot.
use Rattle.std.proofs.Common.{◌≡◌, ◌<◌, ◌≤◌, ◌^◌, ◌&&◌, ℕ, List, true, false, Option, Some, None, cond, leb, sym, refl, ap, ◌∙◌, arith}
use Rattle.std.specs.Str.{bytes_eq}
use Rattle.std.proofs.lemmas.Bool.{and_from, le-leb}
use Rattle.std.specs.Option.{option_map_or}
use Rattle.std.specs.Prelude.{◌%◌, length}
use Rattle.trio_rights.specs.declared.kind.Kind.{Kind}
use Rattle.trio_rights.specs.declared.kind.Kind.TheVariants.{Directory, Link, Regular}
use Rattle.trio_rights.specs.ByKind.{guard_fits, is_link}
use Rattle.trio_layout.specs.Body.{IsNarrowBody, block_count, body_at, body_bytes, body_fits, body_of, head_fits, size_fits}
use Rattle.trio_layout.specs.Range.{core_count}
use Rattle.trio_layout.specs.declared.body.Body.{Body}
use Rattle.trio_layout.specs.declared.range.CoreRange.{CoreRange}
use Rattle.trio_layout.proofs.Bodies.{is_read}
use Rattle.trio_layout.proofs.Reading.{true-bytes_eq}
use Rattle.trio_session.specs.Deeds.{new_number}
use Rattle.trio_session.specs.Layout.{size_in}
use Rattle.trio_session.specs.Seen.{MadeFile, MayBeMade, SessionSeen, no_chain}
use Rattle.trio_deeds.specs.Slots.{MayMakeFile}

-- a body that is spelled is read, if it fits
body_again : (kind : Kind) (range : CoreRange) (b : Body) → b.mode.0 < 2 ^ 16 → IsNarrowBody b → body_fits kind range b ≡ true → body_of kind range (body_bytes b) ≡ Some b
unfolding body_of
body_again kind range b mode narrow fits =
    let again : body_at (body_bytes b) ≡ b = is_read b mode narrow in
    let same : bytes_eq (body_bytes b) (body_bytes (body_at (body_bytes b))) ≡ true = true-bytes_eq (body_bytes b) (body_bytes (body_at (body_bytes b))) (ap body_bytes (sym again)) in
    let test : (bytes_eq (body_bytes b) (body_bytes (body_at (body_bytes b))) && body_fits kind range (body_at (body_bytes b))) ≡ true =
    and_from (bytes_eq (body_bytes b) (body_bytes (body_at (body_bytes b)))) (body_fits kind range (body_at (body_bytes b))) same (ap (body_fits kind range) again ∙ fits) in
    ap (λ t. cond t (Some (body_at (body_bytes b))) None) test ∙ ap Some again

-- an empty file has no page and no head, and isn't guarded; it is no link
empty_fits : (kind : Kind) (range : CoreRange) (b : Body) → is_link kind ≡ false → b.mode.0 ≤ 511 → b.head ≡ 0 → b.size ≡ 0 → b.guard ≡ false → body_fits kind range b ≡ true
empty_fits kind range b link mode head size guard =
    ap (λ t. t && leb (block_count b.size) (core_count range) && size_fits kind b.size && head_fits range (block_count b.size) b.head && guard_fits kind b.guard) (le-leb b.mode.0 511 mode)
    ∙ ap (λ n. leb (block_count n) (core_count range) && size_fits kind n && head_fits range (block_count n) b.head && guard_fits kind b.guard) size
    ∙ ap (λ t. t && size_fits kind 0 && head_fits range (block_count 0) b.head && guard_fits kind b.guard) (le-leb (block_count 0) (core_count range) (omega arith))
    ∙ ap (λ n. size_fits kind 0 && head_fits range 0 n && guard_fits kind b.guard) head
    ∙ ap (λ g. size_fits kind 0 && head_fits range 0 0 && guard_fits kind g) guard
    ∙ by kind link
  where
    by : (k : Kind) → is_link k ≡ false → (size_fits k 0 && head_fits range 0 0 && guard_fits k false) ≡ true
    by Directory plain = refl
    by Regular plain = refl
    by Link plain = absurd (let t : true ≡ false = plain in cc t)

pub new_body_read : (kind : Kind) (range : CoreRange) (b : Body) → is_link kind ≡ false → b.mode.0 ≤ 511 → IsNarrowBody b → b.head ≡ 0 → b.size ≡ 0 → b.guard ≡ false → body_of kind range (body_bytes b) ≡ Some b
new_body_read kind range b link mode narrow head size guard =
    body_again kind range b (omega (arith, mode)) narrow (empty_fits kind range b link mode head size guard)

-- a number that is spare brings such a body into a slot
pub may_be_made : (s : SessionSeen) (name : List ℕ) (dir : ℕ) → MayMakeFile s name dir → (kind : Kind) (body : List ℕ) → size_in body ≡ 0 → MayBeMade s (new_number s) kind body
may_be_made s name dir may kind body small = record {
  nothing = may.nothing;
  same = ap (λ (o : Option MadeFile). option_map_or (λ (x : MadeFile). x.kind) o kind) may.uncleared;
  blocks = ap block_count small ∙ sym (ap (λ (o : Option MadeFile). length (option_map_or (λ (x : MadeFile). x.chain) o no_chain).blocks) may.uncleared);
  whole = λ is. ap (λ k. k % 4096) small;
  place = may.place;
}
