use Rattle.trio_layout.proofs.Words.{◌∙◌, ◌≡◌, Bool, Index, IsIndexPage, IsTrue, None, Option, Some, ap, cond, false, false≢true, index_at, link_fits, refl, sym, true}
use Rattle.std.proofs.Common.{rules}
use Rattle.trio_layout.specs.Index.{index_of}
use Rattle.trio_layout.proofs.IndexPages.{found, only, narrow, index_value, no_index_value}
use Rattle.trio_layout.proofs.index.is_index_page.Goals as goal

chosen : (b : Bool) (x : Index) (o : Option Index) → (b ≡ true → Some x ≡ o) → (b ≡ false → None ≡ o) → cond b (Some x) None ≡ o
chosen true x o here gone = here refl
chosen false x o here gone = gone refl

pub returns-then-numbers_fit : goal.returns-then-numbers_fit
returns-then-numbers_fit c =
    let linked : IsTrue c.link_fits.result → IsTrue (link_fits c.args.last c.args.range _) = λ t. sym (c.link_fits.ensures ∙ ap (link_fits c.args.last c.args.range) c.u64_in.ensures) ∙ t in
    let are = c.if-numbers_fit.ensures.0 refl in
    let f : IsTrue c.link_fits.result → IsIndexPage c.args.used c.args.last c.args.range c.args.bytes.now (index_at c.args.used c.args.bytes.now) =
    λ t. found c.args.used c.args.last c.args.range c.args.bytes.now c.fits-bytes c.told-bytes c.requires are (linked t) in
    let o : (i : Index) → IsIndexPage c.args.used c.args.last c.args.range c.args.bytes.now i → IsTrue c.link_fits.result × index_at c.args.used c.args.bytes.now ≡ i =
    λ i is. (let m = only c.args.used c.args.last c.args.range c.args.bytes.now i c.requires is in
    (c.link_fits.ensures ∙ ap (link_fits c.args.last c.args.range) c.u64_in.ensures ∙ m.link, m.same)) in
    record {
      found = f;
      only = o;
      value = chosen c.link_fits.result (index_at c.args.used c.args.bytes.now) (index_of c.args.used c.args.last c.args.range c.args.bytes.now)
          (λ t. index_value c.args.used c.args.last c.args.range c.args.bytes.now c.requires c.fits-bytes (f t))
          (λ e. no_index_value c.args.used c.args.last c.args.range c.args.bytes.now c.requires c.fits-bytes (λ i is. false≢true (sym e ∙ (o i is).0)));
      narrow = λ t. narrow c.args.used c.args.last c.args.range c.args.bytes.now (search rules) c.requires are (linked t);
    }

pub returns-else-numbers_fit-clause-found : goal.returns-else-numbers_fit-clause-found
returns-else-numbers_fit-clause-found c = λ t. absurd (false≢true (sym c.if-numbers_fit.false ∙ t))

pub returns-else-numbers_fit-clause-only : goal.returns-else-numbers_fit-clause-only
returns-else-numbers_fit-clause-only c = λ i is.
    absurd (false≢true (c.if-numbers_fit.ensures.1 (only c.args.used c.args.last c.args.range c.args.bytes.now i c.requires is).numbers))

pub returns-else-numbers_fit-clause-value : goal.returns-else-numbers_fit-clause-value
returns-else-numbers_fit-clause-value c =
    chosen c.numbers_fit.result (index_at c.args.used c.args.bytes.now) (index_of c.args.used c.args.last c.args.range c.args.bytes.now)
    (λ t. absurd (false≢true (sym c.if-numbers_fit.false ∙ t)))
    (λ e. no_index_value c.args.used c.args.last c.args.range c.args.bytes.now c.requires c.fits-bytes (λ i is.
    false≢true (c.if-numbers_fit.ensures.1 (only c.args.used c.args.last c.args.range c.args.bytes.now i c.requires is).numbers)))

pub returns-else-numbers_fit-clause-narrow : goal.returns-else-numbers_fit-clause-narrow
returns-else-numbers_fit-clause-narrow c = λ t. absurd (false≢true (sym c.if-numbers_fit.false ∙ t))
