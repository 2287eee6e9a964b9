-- What is seen of a registry or a controller of which little has changed.
use Rattle.trio_ctl.proofs.Words.{◌+◌, ◌∙◌, ◌≡◌, ◌≤◌, Controller, Creds, Kept, KeptUnderway, List, Opened, Registered, State, Store, ap, arith, grants_in, state_of, subst, underway_of, ℕ, CoreRange, Entry, HasHistory, Image, Logged, Notes, Option, Outline, Sizes, length, refl, sizes_of, sym}
use Rattle.trio_ctl.proofs.Ends.{after_begin}

-- a kept state is kept as it is seen
pub kept_is : {a b : Registered} → a ≡ b → Kept a.state → Kept b.state
kept_is e kept = subst (λ (x : Registered). Kept x.state) e kept

-- home was looked at as often as is seen
pub looked_is : {a b : Registered} → a ≡ b → b.looked ≤ a.looked
looked_is {a} {b} e = (let same = ap (λ (x : Registered). x.looked) e in omega (arith, same))

-- and no less often after more looks
pub looked_more : {a b : Registered} {n : ℕ} → a ≡ b → a.looked ≤ n → b.looked ≤ n
looked_more {a} {b} {n} e floor = subst (λ (x : Registered). x.looked ≤ n) e floor

pub looked_again : {a b : Registered} {m n : ℕ} → a ≡ b → a.looked ≤ m → m ≤ n → b.looked ≤ n
looked_again {a} {b} {m} {n} e first second = (let same = ap (λ (x : Registered). x.looked) e in omega (arith, same, first, second))

-- as many entries are promised as is seen, so at most one more
pub promised_most : {a b : Registered} → a ≡ b → a.promised ≤ b.promised + 1
promised_most {a} {b} e = (let same = ap (λ (x : Registered). x.promised) e in omega (arith, same))

-- the state is the same where no page at home and no grant has changed
pub state_still : (s s' : Store) (first : ℕ) (files files' : List Opened) (creds : List Creds) (made : ℕ) → s' ≡ record s { home = s'.home } → s'.home.pages ≡ s.home.pages → files' ≡ files → state_of s' first (grants_in files') creds made ≡ state_of s first (grants_in files) creds made
state_still s s' first files files' creds made rest same_pages same_files =
    ap (λ (t : Store). state_of t first (grants_in files') creds made) rest
    ∙ ap (λ ps. state_of (record s { home = record { pages = ps; looked = s'.home.looked } }) first (grants_in files') creds made) same_pages
    ∙ ap (λ fs. state_of s first (grants_in fs) creds made) same_files

-- a kept state of the controller is kept as it is seen
pub seen_kept : {a b : Controller} → a ≡ b → Kept a.state → Kept b.state
seen_kept e kept = subst (λ (x : Controller). Kept x.state) e kept

-- and so is what is underway
pub seen_underway : {a b : Controller} → a ≡ b → KeptUnderway (underway_of a) → KeptUnderway (underway_of b)
seen_underway e kept = subst (λ (x : Controller). KeptUnderway (underway_of x)) e kept

-- the history is as before where the log has only more places
pub more_places : (first : Image) (s : State) (begun : List (Option Outline)) (promised : ℕ) (log log' : Logged) (notes : Notes) → HasHistory first s begun promised log notes → log'.entries ≡ log.entries → log.room ≤ log'.room → HasHistory first s begun promised log' notes
more_places first s begun promised log log' notes h same grows =
    let long = ap (λ (es : List Entry). length es) same in
    let room = h.room in
    after_begin first s s begun begun promised promised log log' notes h refl h.underway same (omega (arith, long, room, grows))

-- and where what is seen of the registry is the same
pub same_history : (first : Image) (s s' : State) (begun begun' : List (Option Outline)) (promised promised' : ℕ) (log : Logged) (notes : Notes) → HasHistory first s begun promised log notes → s' ≡ s → begun' ≡ begun → promised' ≡ promised → HasHistory first s' begun' promised' log notes
same_history first s s' begun begun' promised promised' log notes h state others entries =
    subst (λ (t : State). HasHistory first t begun' promised' log notes) (sym state)
    (subst (λ (b : List (Option Outline)). HasHistory first s b promised' log notes) (sym others)
    (subst (λ (n : ℕ). HasHistory first s begun n log notes) (sym entries) h))

abbrev sized : CoreRange → ℕ → Sizes
sized range inodes = record { range = range; inodes = inodes }

-- the sizes that are asked for are those of the state
pub sized_so : (range : CoreRange) (inodes : ℕ) (s : State) → range ≡ s.home.core.range → inodes ≡ s.home.core.inodes → sized range inodes ≡ sizes_of s
sized_so range inodes s ranges counts = ap (λ r. sized r inodes) ranges ∙ ap (λ n. sized s.home.core.range n) counts
