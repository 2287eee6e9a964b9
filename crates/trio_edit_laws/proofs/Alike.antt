-- What a session may do goes by neither its indexes, its look-ups and its room, nor by what else its desk has out.
use Rattle.trio_edit_laws.proofs.Words.{◌∙◌, ◌≡◌, AreSpare, ComesToShown, DeskSeen, Done, In, IsAlike, List, MayCall, MayEdit, MayGoOn, Room, SameDesk, SessionSeen, TookMore, desk_same, in_hand, ino_numbers, spare_numbers, spare_pages, subst, sym, ℕ}
use Rattle.trio_session.proofs.Alike.{alike_by}
use Rattle.trio_edit_laws.proofs.Shown.{comes_now}
use Rattle.trio_edit_laws.proofs.session.ListedPages.{taking_keeps}

-- what a session keeps doesn't go by its calls either
pub edit_but : (desk : DeskSeen) (x : SessionSeen) (is : List ℕ) (n : ℕ) (r : Room) (cs : List Done) → MayEdit desk x → MayEdit desk (record x { indexed = is; finds = n; room = r; calls = cs })
edit_but desk x is n r cs m = record {
  on = record { lib = m.on.lib; creds = m.on.creds; out = m.on.out; writes = m.on.writes; reads = m.on.reads; core = m.on.core };
  all = m.all;
  given = m.given;
  order = m.order;
  shows = m.shows;
  alone = m.alone;
  beside = m.beside;
  chains = λ ino kind o. (let c = m.chains ino kind o in record { body = c.body; is = c.is; count = c.count; head = c.head; named = c.named });
  own = m.own;
  once = m.once;
  placed = m.placed;
  made = record {
    numbers = m.made.numbers;
    once = m.made.once;
    gone = m.made.gone;
    apart = λ f i. (let u = m.made.apart f i in record { written = u.written; held = u.held; read = u.read });
    slots = λ f i. (let q = m.made.slots f i in record { directory = q.directory; opens = q.opens; block = q.block; slot = q.slot; entry = q.entry; says = q.says; number = q.number; kind = q.kind });
    judged = λ nodes rows p f i. (let j = m.made.judged nodes rows p f i in record { directory = j.directory; judged = j.judged });
    only = m.made.only;
  };
  entries = m.entries;
  held = m.held;
}

pub edit_alike : (desk : DeskSeen) (x s : SessionSeen) → IsAlike x s → MayEdit desk x → MayEdit desk s
edit_alike desk x s e m = alike_by (λ q. MayEdit desk q) x s e (λ is n r. edit_but desk x is n r x.calls m)

pub may_alike : (desk : DeskSeen) (x s : SessionSeen) → IsAlike x s → MayCall desk x → MayCall desk s
may_alike desk x s e m =
    alike_by (λ q. MayCall desk q) x s e
    (λ is n r. record { edits = edit_but desk x is n r x.calls m.edits; comes = m.comes; made = m.made; spent = m.spent; spent_numbers = m.spent_numbers })

pub go_on_alike : (desk : DeskSeen) (x s : SessionSeen) → IsAlike x s → MayGoOn desk x → MayGoOn desk s
go_on_alike desk x s e m =
    alike_by (λ q. MayGoOn desk q) x s e (λ is n r. record { edits = edit_but desk x is n r x.calls m.edits; comes = m.comes; made = m.made })

pub may_go_on : (desk : DeskSeen) (s : SessionSeen) → MayCall desk s → MayGoOn desk s
may_go_on desk s m = record { edits = m.edits; comes = m.comes; made = m.made }

pub spare_alike : (desk : DeskSeen) (x s : SessionSeen) → IsAlike x s → AreSpare desk x → AreSpare desk s
spare_alike desk x s e a =
    alike_by (λ q. AreSpare desk q) x s e (λ is n r k i. (let z = a k i in record { zero = z.zero; unchained = z.unchained; unlisted = z.unlisted }))

-- ---- on another state of the desk

-- what the calls come to is shown there too
pub comes_same : (desk desk' : DeskSeen) (s : SessionSeen) → SameDesk desk desk' → ComesToShown desk s.parcel s.reads s.calls → ComesToShown desk' s.parcel s.reads s.calls
comes_same desk desk' s same comes =
    subst (λ (k : DeskSeen). ComesToShown k s.parcel s.reads s.calls) (sym (desk_same desk desk' same)) (comes_now desk desk'.out (in_hand s) s.calls comes)

-- Nothing was done there but that more was taken: the session may make calls, whose pages and numbers are all in place still.
pub may_took : (desk desk' : DeskSeen) (s x : SessionSeen) → MayCall desk s → SameDesk desk desk' → TookMore desk' s x
    → x.calls ≡ s.calls → x.parcel.inodes ≡ s.parcel.inodes → spare_pages x ≡ spare_pages s → spare_numbers x ≡ spare_numbers s → MayCall desk' x
may_took desk desk' s x may same took calls inodes pages numbers = record {
  edits = took.may;
  comes =
      subst (λ (cs : List Done). ComesToShown desk' x.parcel x.reads cs) (sym calls)
      (taking_keeps desk' (in_hand s) (in_hand x) s.calls took.takes (comes_same desk desk' s same may.comes));
  made = λ k i some. subst (λ l. In k.made (ino_numbers l)) (sym inodes) (may.made k (subst (λ (cs : List Done). In k cs) calls i) some);
  spent = pages ∙ may.spent;
  spent_numbers = numbers ∙ may.spent_numbers;
}
