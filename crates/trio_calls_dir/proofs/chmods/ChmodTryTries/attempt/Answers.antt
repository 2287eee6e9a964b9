use Rattle.trio_calls_dir.proofs.Words.{At, Busy, Call, InAllShown, IsBusyWalk, IsChmod, IsRefusedAs, IsReply, NoMemory, NoWalkMemory, TriesCall, refl, subst, sym, try_end}
use Rattle.trio_calls_dir.specs.inner.Chmods.{IsChmodCall}
use Rattle.trio_calls_dir.proofs.ChmodsTried.{lib_kept, call_hands, call_modes, is_chmod, refused_does, refuses_so, tried_busy, tried_others, tried_short}
use Rattle.trio_calls_dir.proofs.chmods.ChmodTryTries.attempt.Goals as goal
use Rattle.trio_calls_dir.proofs.Walkable.{may_walk}

pub set-requires-clause-alone : goal.set-requires-clause-alone
set-requires-clause-alone g c = c.owned_file.ensures.alone c.requires.begins.2

pub set-requires-clause-chmod : goal.set-requires-clause-chmod
set-requires-clause-chmod g c =
    subst (λ (k : Call). IsChmod (g.D.Desk.seen c.owned_file.new.desk) c.owned_file.new.session.reads c.in-At.ino c.in-Chmod.mode.0 k) (sym c.in-Chmod.is)
    (is_chmod g.D.Desk.called g.D.Desk.seen c.args.desk.now c.args.session.now c.in-Chmod.path c.in-Chmod.mode c.requires.begins.1 c.requires.begins.2 (At c.in-At.ino) c.owned_file.new.desk c.owned_file.new.session (c.in-At.ensures.found c.in-Chmod.mode) (may_walk (g.D.Desk.seen c.owned_file.new.desk) c.owned_file.new.session c.owned_file.ensures.may) (c.owned_file.ensures.alone c.requires.begins.2) c.in-At.ino refl)

pub set-requires-clause-refuses : goal.set-requires-clause-refuses
set-requires-clause-refuses g c =
    refuses_so g.D.Desk.called g.D.Desk.seen c.args.desk.now c.args.session.now c.in-Chmod.path c.in-Chmod.mode c.requires.begins.1 c.requires.begins.2 (At c.in-At.ino) c.owned_file.new.desk c.owned_file.new.session (c.in-At.ensures.found c.in-Chmod.mode) (may_walk (g.D.Desk.seen c.owned_file.new.desk) c.owned_file.new.session c.owned_file.ensures.may) (c.owned_file.ensures.alone c.requires.begins.2) c.in-At.ino refl (subst IsChmodCall c.in-Chmod.is c.requires.begins.0)

pub hand_in-requires-clause-alone : goal.hand_in-requires-clause-alone
hand_in-requires-clause-alone g c = c.owned_file.ensures.alone c.requires.begins.2

pub hand_in-requires-clause-refused : goal.hand_in-requires-clause-refused
hand_in-requires-clause-refused g c =
    subst (λ (k : Call). InAllShown (g.D.Desk.seen c.owned_file.new.desk) c.owned_file.new.session (IsRefusedAs (g.D.Desk.seen c.owned_file.new.desk) k c.in-Reply.reply)) (sym c.in-Chmod.is)
    (refused_does g.D.Desk.called g.D.Desk.seen c.args.desk.now c.args.session.now c.in-Chmod.path c.in-Chmod.mode c.requires.begins.1 c.requires.begins.2 (IsReply c.in-Reply.reply) c.owned_file.new.desk c.owned_file.new.session (c.in-Reply.ensures.found c.in-Chmod.mode) (may_walk (g.D.Desk.seen c.owned_file.new.desk) c.owned_file.new.session c.owned_file.ensures.may) (c.owned_file.ensures.alone c.requires.begins.2) c.in-Reply.reply refl c.in-Reply.ensures.refusal)

pub returns-in-At-clause-tried : goal.returns-in-At-clause-tried
returns-in-At-clause-tried g c =
    call_modes g.D.Desk.called g.D.Desk.seen c.args.desk.now c.args.session.now c.in-Chmod.path c.in-Chmod.mode c.requires.begins.1 c.requires.begins.2 (At c.in-At.ino) c.owned_file.new.desk c.owned_file.new.session (c.in-At.ensures.found c.in-Chmod.mode) (may_walk (g.D.Desk.seen c.owned_file.new.desk) c.owned_file.new.session c.owned_file.ensures.may) (c.owned_file.ensures.alone c.requires.begins.2)
    c.set.new.desk c.set.new.session c.set.result c.set.ensures.same c.args.self.0 c.in-Chmod.is c.in-At.ino refl c.set.ensures.asked

pub returns-in-Reply-clause-tried : goal.returns-in-Reply-clause-tried
returns-in-Reply-clause-tried g c =
    call_hands g.D.Desk.called g.D.Desk.seen c.args.desk.now c.args.session.now c.in-Chmod.path c.in-Chmod.mode c.requires.begins.1 c.requires.begins.2 (IsReply c.in-Reply.reply) c.owned_file.new.desk c.owned_file.new.session (c.in-Reply.ensures.found c.in-Chmod.mode) (may_walk (g.D.Desk.seen c.owned_file.new.desk) c.owned_file.new.session c.owned_file.ensures.may) (c.owned_file.ensures.alone c.requires.begins.2)
    c.hand_in.new.desk c.hand_in.new.session c.hand_in.result c.hand_in.ensures.same c.args.self.0 c.in-Chmod.is c.in-Reply.reply refl c.in-Reply.ensures.refusal c.hand_in.ensures.handed

pub returns-in-Busy-clause-tried : goal.returns-in-Busy-clause-tried
returns-in-Busy-clause-tried g c =
    subst (λ (k : Call). TriesCall g.D.Desk.called g.D.Desk.seen k c.args.desk.now c.args.session.now (Busy c.in-Busy.holder) c.owned_file.new.desk c.owned_file.new.session) (sym c.in-Chmod.is)
    (tried_busy g.D.Desk.called g.D.Desk.seen c.args.desk.now c.args.session.now c.in-Chmod.path c.in-Chmod.mode c.requires.begins.1 c.requires.begins.2 (IsBusyWalk c.in-Busy.holder) c.owned_file.new.desk c.owned_file.new.session (c.in-Busy.ensures.found c.in-Chmod.mode) (may_walk (g.D.Desk.seen c.owned_file.new.desk) c.owned_file.new.session c.owned_file.ensures.may) (c.owned_file.ensures.alone c.requires.begins.2) c.in-Busy.holder refl)

pub returns-in-NoMemory-clause-tried : goal.returns-in-NoMemory-clause-tried
returns-in-NoMemory-clause-tried g c =
    subst (λ (k : Call). TriesCall g.D.Desk.called g.D.Desk.seen k c.args.desk.now c.args.session.now NoMemory c.owned_file.new.desk c.owned_file.new.session) (sym c.in-Chmod.is)
    (tried_short g.D.Desk.called g.D.Desk.seen c.args.desk.now c.args.session.now c.in-Chmod.path c.in-Chmod.mode c.requires.begins.1 c.requires.begins.2 NoWalkMemory c.owned_file.new.desk c.owned_file.new.session (c.in-NoMemory.ensures.found c.in-Chmod.mode) (may_walk (g.D.Desk.seen c.owned_file.new.desk) c.owned_file.new.session c.owned_file.ensures.may) (c.owned_file.ensures.alone c.requires.begins.2) (λ n e. cc e) (λ holder e. cc e) c.owned_file.new.session refl)

pub returns-in-At-clause-lib : goal.returns-in-At-clause-lib
returns-in-At-clause-lib g c =
    lib_kept (g.D.Desk.seen c.args.desk.now) (g.D.Desk.seen c.owned_file.new.desk) (g.D.Desk.seen c.set.new.desk) c.args.session.now c.set.new.session c.requires.begins.1 c.set.ensures.may (c.in-At.ensures.found c.in-Chmod.mode).way.lib c.set.ensures.same.lib

pub returns-in-Reply-clause-lib : goal.returns-in-Reply-clause-lib
returns-in-Reply-clause-lib g c =
    lib_kept (g.D.Desk.seen c.args.desk.now) (g.D.Desk.seen c.owned_file.new.desk) (g.D.Desk.seen c.hand_in.new.desk) c.args.session.now c.hand_in.new.session c.requires.begins.1 c.hand_in.ensures.may (c.in-Reply.ensures.found c.in-Chmod.mode).way.lib c.hand_in.ensures.same.lib

pub returns-in-Busy-clause-lib : goal.returns-in-Busy-clause-lib
returns-in-Busy-clause-lib g c =
    lib_kept (g.D.Desk.seen c.args.desk.now) (g.D.Desk.seen c.owned_file.new.desk) (g.D.Desk.seen c.owned_file.new.desk) c.args.session.now c.owned_file.new.session c.requires.begins.1 c.owned_file.ensures.may (c.in-Busy.ensures.found c.in-Chmod.mode).way.lib refl

pub returns-in-NoMemory-clause-lib : goal.returns-in-NoMemory-clause-lib
returns-in-NoMemory-clause-lib g c =
    lib_kept (g.D.Desk.seen c.args.desk.now) (g.D.Desk.seen c.owned_file.new.desk) (g.D.Desk.seen c.owned_file.new.desk) c.args.session.now c.owned_file.new.session c.requires.begins.1 c.owned_file.ensures.may (c.in-NoMemory.ensures.found c.in-Chmod.mode).way.lib refl

pub returns-in-At-clause-others : goal.returns-in-At-clause-others
returns-in-At-clause-others g c = λ none.
    tried_others g.D.Desk.called g.D.Desk.seen c.args.self.0 c.args.desk.now c.args.session.now (try_end c.set.result) c.set.new.desk c.set.new.session (returns-in-At-clause-tried g c)

pub returns-in-Busy-clause-others : goal.returns-in-Busy-clause-others
returns-in-Busy-clause-others g c = λ none.
    tried_others g.D.Desk.called g.D.Desk.seen c.args.self.0 c.args.desk.now c.args.session.now (Busy c.in-Busy.holder) c.owned_file.new.desk c.owned_file.new.session (returns-in-Busy-clause-tried g c)
