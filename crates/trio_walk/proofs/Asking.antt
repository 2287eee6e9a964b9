-- What is asked behind a walk or a taking.
use Rattle.trio_walk.proofs.Words.{◌++◌, ◌||◌, ◌∙◌, ◌∷◌, ◌≡◌, Bool, In, Lease, LentFile, List, Needed, SessionSeen, TookLeases, WriteLease, [], ap, append-nil, append_assoc, asked, asked_beside, cond, list_any, map, need_of, refl, served_by, serves_need, sym}
use Rattle.std.proofs.Math.Bool.{or_assoc}
use Rattle.std.proofs.lemmas.List.Folds.{list_any-append}
use Rattle.trio_walk.proofs.Agreeing.{asked_beside-append}
use Rattle.trio_walk.proofs.Stepping.{served_by-took}

-- behind what was got before one asks as a session does that has it
asked_served : (before after : Needed → Bool) (first : List Needed) → ((n : Needed) → after n ≡ (before n || list_any (serves_need n) first))
    → (got ns : List Needed) → asked_beside before (first ++ got) ns ≡ asked_beside after got ns
asked_served before after first same got [] = refl
asked_served before after first same got (n ∷ ns) =
    let rest = asked_served before after first same got ns in
    let more : asked_beside before ((first ++ got) ++ n ∷ []) ns ≡ asked_beside after (got ++ n ∷ []) ns =
    ap (λ g. asked_beside before g ns) (append_assoc first got (n ∷ [])) ∙ asked_served before after first same (got ++ n ∷ []) ns in
    let test : (before n || list_any (serves_need n) (first ++ got)) ≡ (after n || list_any (serves_need n) got) =
    ap (λ t. before n || t) (list_any-append (serves_need n) first got) ∙ sym (or_assoc (before n) (list_any (serves_need n) first) (list_any (serves_need n) got)) ∙ ap (λ t. t || list_any (serves_need n) got) (sym (same n)) in
    ap (λ t. cond t (asked_beside before (first ++ got) ns) (n ∷ asked_beside before ((first ++ got) ++ n ∷ []) ns)) test
    ∙ ap (λ l. cond (after n || list_any (serves_need n) got) l (n ∷ asked_beside before ((first ++ got) ++ n ∷ []) ns)) rest
    ∙ ap (λ l. cond (after n || list_any (serves_need n) got) (asked_beside after got ns) (n ∷ l)) more

pub asked_then : (s s' : SessionSeen) (more : List Lease) → TookLeases s more s' → ((f : LentFile) → In (WriteLease f) more → f.stands ≡ f.lent)
    → (first ns : List Needed) → asked (served_by s) first ≡ map need_of more → asked (served_by s) (first ++ ns) ≡ map need_of more ++ asked (served_by s') ns
asked_then s s' more took as_lent first ns e =
    asked_beside-append (served_by s) first ns []
    ∙ ap (λ g. g ++ asked_beside (served_by s) g ns) e
    ∙ ap (λ l. map need_of more ++ l) (ap (λ g. asked_beside (served_by s) g ns) (sym (append-nil (map need_of more))) ∙ asked_served (served_by s) (served_by s') (map need_of more) (served_by-took s s' more took as_lent) [] ns)
