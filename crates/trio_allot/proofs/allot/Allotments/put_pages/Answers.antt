use Rattle.trio_allot.proofs.Words.{◌++◌, ◌<◌, ◌∙◌, ◌∷◌, ◌≡◌, All, All-head, All-tail, FreshParts, List, None, Some, [], ap, length, length-set, page_numbers, refl, reverse, subst, sym, with_all, with_pages}
use Rattle.std.proofs.lemmas.List.{reverse-append, reverse-reverse}
use Rattle.trio_allot.proofs.allot.Allotments.put_pages.Goals as goal

-- the last of the list is the first of the reversed one
last_first : (items rest : List FreshParts) (f : FreshParts) → items ≡ rest ++ f ∷ [] → reverse items ≡ f ∷ reverse rest
last_first items rest f is = ap reverse is ∙ reverse-append rest (f ∷ [])

pub loop-page-init : goal.loop-page-init
loop-page-init c =
    let all : reverse c.reverse.new.self.items ≡ c.args.pages.items = ap reverse c.reverse.ensures.items ∙ reverse-reverse c.args.pages.items in
    record {
      ended = ap (λ fs. with_all None (page_numbers fs) c.args.self.now.pages) all;
      numbers = refl;
      home = ap (λ fs. with_pages fs c.args.home.now.pages) all;
      looked = refl;
      within = subst (λ fs. All (λ n. n < length c.args.self.now.pages) (page_numbers fs)) (sym all) c.requires.within;
      within_home = subst (λ fs. All (λ n. n < length c.args.home.now.pages) (page_numbers fs)) (sym all) c.requires.within_home;
    }

pub put_page-requires-clause-within : goal.put_page-requires-clause-within
put_page-requires-clause-within c =
    let k = length c.loop-page.self.pages in let f = c.in-Some.page in
    let next = last_first c.loop-page.pages.items c.pop.new.self.items f c.in-Some.ensures.items in
    All-head (λ n. n < k) f.no.0 (page_numbers (reverse c.pop.new.self.items))
    (subst (λ fs. All (λ n. n < k) (page_numbers fs)) next c.loop-page.invariant.within)

pub put_page-requires-clause-within_home : goal.put_page-requires-clause-within_home
put_page-requires-clause-within_home c =
    let k = length c.loop-page.home.pages in let f = c.in-Some.page in
    let next = last_first c.loop-page.pages.items c.pop.new.self.items f c.in-Some.ensures.items in
    All-head (λ n. n < k) f.no.0 (page_numbers (reverse c.pop.new.self.items))
    (subst (λ fs. All (λ n. n < k) (page_numbers fs)) next c.loop-page.invariant.within_home)

pub loop-page-preserved : goal.loop-page-preserved
loop-page-preserved c =
    let inv = c.loop-page.invariant in
    let rest = reverse c.pop.new.self.items in let f = c.in-Some.page in
    let next = last_first c.loop-page.pages.items c.pop.new.self.items f c.in-Some.ensures.items in
    let outs = c.loop-page.self.pages in let pages = c.loop-page.home.pages in
    let one = c.put_page.ensures in
    let same_size = ap (λ s. length s.pages) one.ended ∙ length-set outs f.no.0 None in
    let same_home = ap (λ h. length h.pages) one.home ∙ length-set pages f.no.0 (Some f.page) in
    record {
      ended = ap (λ s. with_all None (page_numbers rest) s.pages) one.ended
          ∙ ap (λ fs. with_all None (page_numbers fs) outs) (sym next) ∙ inv.ended;
      numbers = ap (λ s. s.numbers) one.ended ∙ inv.numbers;
      home = ap (λ h. with_pages rest h.pages) one.home
          ∙ ap (λ fs. with_pages fs pages) (sym next) ∙ inv.home;
      looked = ap (λ h. h.looked) one.home ∙ inv.looked;
      within = subst (λ k. All (λ n. n < k) (page_numbers rest)) (sym same_size)
          (All-tail (λ n. n < length outs) f.no.0 (page_numbers rest) (subst (λ fs. All (λ n. n < length outs) (page_numbers fs)) next inv.within));
      within_home = subst (λ k. All (λ n. n < k) (page_numbers rest)) (sym same_home)
          (All-tail (λ n. n < length pages) f.no.0 (page_numbers rest) (subst (λ fs. All (λ n. n < length pages) (page_numbers fs)) next inv.within_home));
    }
