use Rattle.trio_ctl.proofs.Words.{◌∙◌, ◌≡◌, None, Pages, Some, ap, option_map, slice_index_or, slice_set, sym, with_mode_in}
use Rattle.std.proofs.Common.{set-set}
use Rattle.trio_ctl.proofs.mode_change.put_mode.Goals as goal

pub returns-clause-pages : goal.returns-clause-pages
returns-clause-pages c =
    let pages = c.args.store.now.home.pages in
    let page = c.args.row.now.page in
    let mode = with_mode_in c.args.row.now.slot c.args.mode in
    let there : slice_index_or pages page None ≡ Some c.in-Some.page = sym c.take.ensures.page ∙ c.in-Some.is in
    ap (λ (h : Pages). h.pages) c.put.ensures
    ∙ ap (λ (h : Pages). slice_set h.pages page (Some c.put_mode_in.new.page)) c.take.ensures.home
    ∙ set-set pages page None (Some c.put_mode_in.new.page)
    ∙ ap (λ b. slice_set pages page (Some b)) c.put_mode_in.ensures
    ∙ sym (ap (λ o. slice_set pages page (option_map mode o)) there)
