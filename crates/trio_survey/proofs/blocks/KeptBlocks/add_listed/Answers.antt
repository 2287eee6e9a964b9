use Rattle.trio_survey.proofs.Words.{◌++◌, ◌<◌, ◌∙◌, ◌∷◌, ◌≡◌, List, Listed, [], ap, append_assoc, arith, entry_seen, get_or, get_or_read, length, listed_seen, map, map_push, sym, take, ℕ}
use Rattle.trio_survey.proofs.Naming.{IsAt, is_in, taken}
use Rattle.trio_survey.proofs.blocks.KeptBlocks.add_listed.Goals as goal

pub index-requires : goal.index-requires
index-requires c =
    let es = c.args.entries.now in
    let i = c.loop-entry.entry-index in
    let l = c.entry-item.result in
    omega (arith, c.requires l (is_in es i l (omega arith, c.entry-item.is)))

pub loop-entry-preserved : goal.loop-entry-preserved
loop-entry-preserved c =
    let es = c.args.entries.now in
    let i = c.loop-entry.entry-index in
    let names = c.args.self.now.names.names.items in
    let old = map listed_seen c.loop-entry.listed.items in
    let l = c.entry-item.result in
    let at : IsAt es i l = (omega arith, c.entry-item.is) in
    let below : l.name < length names = c.requires l (is_in es i l at) in
    let name : c.index.result.now ≡ get_or names l.name [] = get_or_read names l.name c.index.result.now below c.index.ensures [] in
    let read : List ℕ → List ℕ → Listed = λ n b. record { entry = record { ino = l.ino; kind = l.kind; name = n }; page = l.page; slot = l.slot; body = b } in
    ap (map listed_seen) c.in_ok-push.ensures.items ∙ map_push listed_seen c.loop-entry.listed.items _
    ∙ ap (λ b. old ++ read c.index.result.now b ∷ []) c.bytes.ensures
    ∙ ap (λ n. old ++ read n l.body ∷ []) name
    ∙ ap (λ ls. ls ++ entry_seen names l ∷ []) c.loop-entry.invariant
    ∙ append_assoc (map listed_seen c.args.listed.now.items) (map (entry_seen names) (take i es)) (entry_seen names l ∷ [])
    ∙ ap (λ ls. map listed_seen c.args.listed.now.items ++ ls) (sym (taken names es i l at))
