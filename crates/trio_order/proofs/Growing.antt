-- A library's calls along a log that grows.
use Rattle.trio_order.proofs.Words.{◌++◌, ◌∙◌, ◌∷◌, ◌≡◌, Along, Call, Entry, Happens, LibNo, List, ReplaysFrom, State, [], ap, append-nil, append_assoc, entries_told, made_by, refl, subst, sym}
use Rattle.trio_order.specs.OrderLaws.{CallsEnd, CallsGrow}
use Rattle.trio_order.proofs.Courses.{none_both}

-- more behind what others made, what the library made, and what came later
more_behind : (others own later more : List Entry) → (others ++ (own ++ later)) ++ more ≡ others ++ (own ++ (later ++ more))
more_behind others own later more = append_assoc others (own ++ later) more ∙ ap (λ l. others ++ l) (append_assoc own later more)

module _ (first : State) (lib : LibNo) where
  ends : (passed log others : List Entry) (calls : List Call) → Along first lib passed log calls → made_by lib.0 others ≡ [] → Along first lib passed (log ++ others) calls
  ends passed log others [] a none = none_both lib.0 log others a none
  ends passed log others (x ∷ calls) a none =
      let own : List Entry = entries_told a.before lib x.ask x.told in
      record {
        others = a.others;
        later = a.later ++ others;
        before = a.before;
        after = a.after;
        log_is = ap (λ l. l ++ others) a.log_is ∙ more_behind a.others own a.later others;
        not_its_own = a.not_its_own;
        found = a.found;
        did = a.did;
        left = a.left;
        rest = ends ((passed ++ a.others) ++ own) a.later others calls a.rest none;
      }

  module _ (c : Call) (before after : State) (did : Happens before lib c.ask c.told after) (others place : List Entry) (none : made_by lib.0 others ≡ [])
      (found : ReplaysFrom first place before) (left : ReplaysFrom first (place ++ entries_told before lib c.ask c.told) after) where
    abbrev own : List Entry
    own = entries_told before lib c.ask c.told

    grows : (passed log : List Entry) (calls : List Call) → place ≡ (passed ++ log) ++ others → Along first lib passed log calls → Along first lib passed ((log ++ others) ++ own) (calls ++ c ∷ [])
    grows passed log [] is a =
        let there : place ≡ passed ++ (log ++ others) = is ∙ append_assoc passed log others in
        record {
          others = log ++ others;
          later = [];
          before = before;
          after = after;
          log_is = ap (λ l. (log ++ others) ++ l) (sym (append-nil own));
          not_its_own = none_both lib.0 log others a none;
          found = subst (λ l. ReplaysFrom first l before) there found;
          did = did;
          left = subst (λ l. ReplaysFrom first (l ++ own) after) there left;
          rest = refl;
        }
    grows passed log (x ∷ calls) is a =
        let made : List Entry = entries_told a.before lib x.ask x.told in
        let seen : List Entry = (passed ++ a.others) ++ made in
        let there : passed ++ log ≡ seen ++ a.later =
        ap (λ l. passed ++ l) a.log_is ∙ sym (append_assoc passed a.others (made ++ a.later)) ∙ sym (append_assoc (passed ++ a.others) made a.later) in
        record {
          others = a.others;
          later = (a.later ++ others) ++ own;
          before = a.before;
          after = a.after;
          log_is = ap (λ l. (l ++ others) ++ own) a.log_is ∙ ap (λ l. l ++ own) (more_behind a.others made a.later others) ∙ more_behind a.others made (a.later ++ others) own;
          not_its_own = a.not_its_own;
          found = a.found;
          did = a.did;
          left = a.left;
          rest = grows seen a.later calls (is ∙ ap (λ l. l ++ others) there) a.rest;
        }

pub calls_end : CallsEnd
calls_end first lib seen others calls a none = ends first lib [] seen others calls a none

pub calls_grow : CallsGrow
calls_grow first lib seen others calls c before after a none found did left = grows first lib c before after did others (seen ++ others) none found left [] seen calls refl a
