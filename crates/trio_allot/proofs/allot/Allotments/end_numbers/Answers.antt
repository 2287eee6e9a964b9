use Rattle.trio_allot.proofs.Words.{◌<◌, ◌∙◌, ◌∷◌, All, None, [], ap, inode_numbers, length, length-set, map-append, subst, sym, with_all}
use Rattle.trio_allot.proofs.OutLemmas.{all_init, with_all-last}
use Rattle.trio_allot.proofs.allot.Allotments.end_numbers.Goals as goal

pub end_number-requires : goal.end_number-requires
end_number-requires c =
    let rest = c.pop.new.self.items in let f = c.in-Some.number in
    let numbers = ap inode_numbers c.in-Some.ensures.items ∙ map-append (λ f. f.no) rest (f ∷ []) in
    (all_init (λ n. n < length c.loop-number.self.numbers) (inode_numbers rest) f.no
    (subst (All (λ n. n < length c.loop-number.self.numbers)) numbers c.loop-number.invariant.within)).1

pub loop-number-preserved : goal.loop-number-preserved
loop-number-preserved c =
    let inv = c.loop-number.invariant in
    let rest = c.pop.new.self.items in let f = c.in-Some.number in
    let numbers = ap inode_numbers c.in-Some.ensures.items ∙ map-append (λ f. f.no) rest (f ∷ []) in
    let outs = c.loop-number.self.numbers in let one = c.end_number.ensures in
    let same_size = ap (λ s. length s.numbers) one ∙ length-set outs f.no None in
    record {
      ended = ap (λ s. with_all None (inode_numbers rest) s.numbers) one
          ∙ sym (with_all-last None (inode_numbers rest) f.no outs)
          ∙ ap (λ ns. with_all None ns outs) (sym numbers) ∙ inv.ended;
      pages = ap (λ s. s.pages) one ∙ inv.pages;
      within = subst (λ k. All (λ n. n < k) (inode_numbers rest)) (sym same_size)
          (all_init (λ n. n < length outs) (inode_numbers rest) f.no (subst (All (λ n. n < length outs)) numbers inv.within)).0;
    }
