use Rattle.trio_app.proofs.Words.{◌≡◌, All-contains_itself, rules, texts_of}
use Rattle.trio_app.proofs.run_words.Goals as goal

pub trio_main-status-requires-after_bounds : goal.trio_main-status-requires-after_bounds
trio_main-status-requires-after_bounds g c κs within =
    let served : texts_of c.in-Ok-new.files.counts.names.items ≡ texts_of c.deref-2.result.now = search rules in
    rw served (All-contains_itself (texts_of c.deref-2.result.now))
