use Rattle.trio_allot.proofs.Words.{◌&&◌, ◌++◌, ◌+◌, ◌<◌, ◌∙◌, ◌∷◌, ◌≡◌, ◌≤◌, None, Some, [], ap, arith, free_numbers, fresh_number, get_or-set_other, is_free_number, le_trans, length, length-set, map, map-append, row_in, set, slice_index_or, sym, take, with_all, ℕ}
use Rattle.std.proofs.Common.{not, is_some}
use Rattle.trio_allot.proofs.FreeLemmas.{next_of, next_same, not_empty, where_same}
use Rattle.trio_allot.proofs.OutLemmas.{with_all-push}
use Rattle.trio_allot.proofs.allot.Allotments.take_inodes.Goals as goal

pub unreachable-requires : goal.unreachable-requires
unreachable-requires c =
    let rows = c.args.rows.now in let inv = c.loop-i.invariant in
    let free = free_numbers rows c.args.self.now.numbers in
    let same : (n : ℕ) → c.loop-i.from ≤ n → n < length rows → is_free_number rows c.loop-i.self.numbers n ≡ is_free_number rows c.args.self.now.numbers n = λ n le lt. ap (λ o. not (is_some (row_in rows n)) && not (is_some o)) (inv.out_later n le) in
    let below : c.loop-i._i < length free = omega (arith, c.loop-i-test.true, c.has_inodes.ensures.0 c.if-not-has_inodes.false) in
    not_empty free c.loop-i._i below
    (sym inv.left ∙ sym (where_same (is_free_number rows c.loop-i.self.numbers) (is_free_number rows c.args.self.now.numbers) c.loop-i.from (length rows) same)
    ∙ c.in_default-next_free_number.ensures.next)

pub loop-i-preserved : goal.loop-i-preserved
loop-i-preserved c =
    let rows = c.args.rows.now in let lib = c.args.lib in
    let free = free_numbers rows c.args.self.now.numbers in
    let n = c.in-Some.ino in let i = c.loop-i._i in let inv = c.loop-i.invariant in
    let outs = c.loop-i.self.numbers in
    let within = c.in-Some.ensures.within in
    let one = c.take_number-number.ensures in let push = c.in_default-push.ensures in
    let same : (m : ℕ) → c.loop-i.from ≤ m → m < length rows → is_free_number rows outs m ≡ is_free_number rows c.args.self.now.numbers m = λ m le lt. ap (λ o. not (is_some (row_in rows m)) && not (is_some o)) (inv.out_later m le) in
    let step = next_of free i n _
    (sym inv.left ∙ next_same (is_free_number rows outs) (is_free_number rows c.args.self.now.numbers) c.loop-i.from (length rows) n same within.0 c.in-Some.ensures.next) in
    record {
      left = sym step.left;
      given = push.items ∙ ap (λ xs. xs ++ c.take_number-number.result ∷ []) inv.given
          ∙ ap (λ x. map (fresh_number lib) (take i free) ++ x ∷ []) one.number
          ∙ sym (map-append (fresh_number lib) (take i free) (n ∷ []))
          ∙ ap (map (fresh_number lib)) (sym step.taken);
      out = ap (λ s. s.numbers) one.out ∙ ap (λ os. set os n (Some lib)) inv.out
          ∙ sym (with_all-push (Some lib) (take i free) n c.args.self.now.numbers)
          ∙ ap (λ ns. with_all (Some lib) ns c.args.self.now.numbers) (sym step.taken);
      pages = ap (λ s. s.pages) one.out ∙ inv.pages;
      out_later = λ m le. ap (λ s. slice_index_or s.numbers m None) one.out
          ∙ get_or-set_other outs n m (Some lib) None (omega (arith, le))
          ∙ inv.out_later m (omega (arith, le, within.0));
      sizes = ap (λ s. length s.numbers) one.out ∙ length-set outs n (Some lib) ∙ inv.sizes;
      room = le_trans inv.room c.push.ensures.capacity;
      count = push.len ∙ ap (λ k. k + 1) inv.count;
    }
