use Rattle.trio_allot.proofs.Words.{◌&&◌, ◌++◌, ◌+◌, ◌<◌, ◌==◌, ◌∙◌, ◌∷◌, ◌≡◌, ◌≤◌, IsSome, None, Some, [], ap, arith, free_pages, fresh_page, get_or-set_other, is_free_page, le_trans, length, length-set, map, map-append, raised, set, slice_index_or, subst, sym, take, with_all, ℕ}
use Rattle.std.proofs.Common.{not, is_some, slice_index, IsTrue}
use Rattle.trio_allot.proofs.FreeLemmas.{next_of, next_same, not_empty, where_same}
use Rattle.trio_allot.proofs.OutLemmas.{with_all-push, raised_by-more, home_after_taking}
use Rattle.trio_allot.proofs.allot.Allotments.take_pages.Goals as goal

pub unreachable-requires : goal.unreachable-requires
unreachable-requires c =
    let owners = c.args.owners.now in let inv = c.loop-i.invariant in
    let free = free_pages owners c.args.self.now.pages in
    let same : (n : ℕ) → c.loop-i.from ≤ n → n < length owners → is_free_page owners c.loop-i.self.pages n ≡ is_free_page owners c.args.self.now.pages n = λ n le lt. ap (λ o. (slice_index owners n == 0) && not (is_some o)) (inv.out_later n le) in
    let below : c.loop-i._i < length free = omega (arith, c.loop-i-test.true, c.has_pages.ensures.0 c.if-not-has_pages.false) in
    not_empty free c.loop-i._i below
    (sym inv.left ∙ sym (where_same (is_free_page owners c.loop-i.self.pages) (is_free_page owners c.args.self.now.pages) c.loop-i.from (length owners) same)
    ∙ c.in_default-next_free_page.ensures.next)

pub take_page-page-requires-clause-there : goal.take_page-page-requires-clause-there
take_page-page-requires-clause-there c =
    let owners = c.args.owners.now in let inv = c.loop-i.invariant in
    let n = c.in-Some.no in let within = c.in-Some.ensures.within in
    subst IsSome (sym (inv.home_later n within.0))
    (c.requires.there n within.1
    (subst (λ o. IsTrue ((slice_index owners n == 0) && not (is_some o))) (inv.out_later n within.0) c.in-Some.ensures.free))

pub loop-i-preserved : goal.loop-i-preserved
loop-i-preserved c =
    let owners = c.args.owners.now in let lib = c.args.lib in
    let free = free_pages owners c.args.self.now.pages in
    let n = c.in-Some.no in let i = c.loop-i._i in let inv = c.loop-i.invariant in
    let outs = c.loop-i.self.pages in let pages = c.loop-i.home.pages in
    let within = c.in-Some.ensures.within in
    let one = c.take_page-page.ensures in let push = c.in_default-push.ensures in
    let same : (m : ℕ) → c.loop-i.from ≤ m → m < length owners → is_free_page owners outs m ≡ is_free_page owners c.args.self.now.pages m = λ m le lt. ap (λ o. (slice_index owners m == 0) && not (is_some o)) (inv.out_later m le) in
    let step = next_of free i n _
    (sym inv.left ∙ next_same (is_free_page owners outs) (is_free_page owners c.args.self.now.pages) c.loop-i.from (length owners) n same within.0 c.in-Some.ensures.next) in
    record {
      left = sym step.left;
      given = push.items ∙ ap (λ xs. xs ++ c.take_page-page.result ∷ []) inv.given
          ∙ ap (λ x. map (fresh_page lib) (take i free) ++ x ∷ []) one.page
          ∙ sym (map-append (fresh_page lib) (take i free) (n ∷ []))
          ∙ ap (map (fresh_page lib)) (sym step.taken);
      out = ap (λ s. s.pages) one.out ∙ ap (λ os. set os n (Some lib)) inv.out
          ∙ sym (with_all-push (Some lib) (take i free) n c.args.self.now.pages)
          ∙ ap (λ ns. with_all (Some lib) ns c.args.self.now.pages) (sym step.taken);
      numbers = ap (λ s. s.numbers) one.out ∙ inv.numbers;
      home = ap (λ h. h.pages) one.home ∙ ap (λ ps. set ps n None) inv.home
          ∙ sym (with_all-push None (take i free) n c.args.home.now.pages)
          ∙ ap (λ ns. with_all None ns c.args.home.now.pages) (sym step.taken);
      looked = ap (λ h. h.looked) one.home ∙ ap raised inv.looked ∙ sym (raised_by-more i c.args.home.now.looked);
      reads = one.reads ∙ ap raised inv.reads ∙ sym (raised_by-more i c.args.reads.now);
      out_later = λ m le. ap (λ s. slice_index_or s.pages m None) one.out
          ∙ get_or-set_other outs n m (Some lib) None (omega (arith, le))
          ∙ inv.out_later m (omega (arith, le, within.0));
      home_later = λ m le. ap (λ h. slice_index_or h.pages m None) one.home
          ∙ get_or-set_other pages n m None None (omega (arith, le))
          ∙ inv.home_later m (omega (arith, le, within.0));
      sizes = ap (λ s. length s.pages) one.out ∙ length-set outs n (Some lib) ∙ inv.sizes;
      room = le_trans inv.room c.push.ensures.capacity;
      count = push.len ∙ ap (λ k. k + 1) inv.count;
    }

pub returns-clause-there : goal.returns-clause-there
returns-clause-there c =
    let owners = c.args.owners.now in let outs = c.args.self.now.pages in let inv = c.loop-i.invariant in
    let numbers = take c.loop-i._i (free_pages owners outs) in
    λ n lt free. subst (λ pages. IsSome (slice_index_or pages n None)) (sym inv.home)
    (home_after_taking owners outs c.args.home.now.pages c.args.lib numbers c.requires.sizes c.requires.there n lt
    (subst (λ now. IsTrue (is_free_page owners now n)) inv.out free))
