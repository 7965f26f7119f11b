use Rattle.std.proofs.Common.{rules, ◌≡◌, ◌≤◌, ◌<◌, ◌+◌, ◌++◌, ℕ, List, Option, length, take, arith, subst, sym, Ok, Err, Result}
use Rattle.std.proofs.lemmas.Grind.{common_steps}
use Rattle.mos_codec.specs.Decoding.{TellsFed}
use Rattle.mos_codec.specs.declared.fault.DecodeFault.{DecodeFault}
use Rattle.mos_codec.specs.declared.fault.DecodeFault.TheVariants.{Refused}
use Rattle.port_session.specs.Reading.{Reads}
use Rattle.port_session.specs.declared.inlet.Rejection.{Rejection}
use Rattle.port_session.proofs.Readings.{room_for, fed_more, fed_refused, fed_starved}
use Rattle.port_session.proofs.inlet.Inlet.take_in.Goals as goal

pub feed-outcome-requires-clause-room : goal.feed-outcome-requires-clause-room
feed-outcome-requires-clause-room c =
    let r = c.requires.reads.5 in
    let short : length (take c.args.count c.deref.result.now) ≤ c.args.count = first_of (search rules, grind (arith, common_steps)) in
    let small : c.args.self.now.count + c.args.count < 18446744073709551616 = first_of (search rules, grind (arith, common_steps)) in
    room_for _ _ _ _ _ _ _ _ _ r c.requires.ready c.requires.rejection (take c.args.count c.deref.result.now) c.args.count short small

pub returns-in-Ok-clause-next : goal.returns-in-Ok-clause-next
returns-in-Ok-clause-next c l f l' f' l'' f'' given r t le =
    let whole : length (take c.args.count c.args.self.now.buffer.items) ≡ c.args.count = first_of (search rules, grind (arith, common_steps)) in
    subst (λ (o : Option Rejection). Reads l f l'' f'' c.feed-outcome.new.self o (c.args.self.now.count + c.args.count) c.args.self.now.budget given) (sym c.requires.rejection)
    (fed_more l f l' f' _ _ _ _ given r c.requires.ready c.requires.rejection l'' f'' c.feed-outcome.new.self (take c.args.count c.args.self.now.buffer.items) c.args.count t le whole c.requires.room c.in-Ok.field-0
    (λ bytes found h. subst (λ (xs : List ℕ). TellsFed (bytes ++ take c.args.count xs) found (Ok c.in-Ok.field-0) c.feed-outcome.new.self) c.deref.ensures.value (c.in-Ok.ensures.tells bytes found h)))

pub returns-in-Err-Refused-clause-next : goal.returns-in-Err-Refused-clause-next
returns-in-Err-Refused-clause-next c l f l' f' l'' f'' given r t le =
    let whole : length (take c.args.count c.args.self.now.buffer.items) ≡ c.args.count = first_of (search rules, grind (arith, common_steps)) in
    let is : c.feed-outcome.result ≡ Err (Refused c.in-Err-Refused.place c.in-Err-Refused.kind) = first_of (search rules, grind (arith, common_steps)) in
    fed_refused l f l' f' _ _ _ _ given r c.requires.ready c.requires.rejection l'' f'' c.feed-outcome.new.self (take c.args.count c.args.self.now.buffer.items) c.args.count t le whole c.requires.room c.in-Err-Refused.place c.in-Err-Refused.kind
    (λ bytes found h. subst (λ (res : Result (Unit {0}) DecodeFault). TellsFed (bytes ++ take c.args.count c.args.self.now.buffer.items) found res c.feed-outcome.new.self) is
    (subst (λ (xs : List ℕ). TellsFed (bytes ++ take c.args.count xs) found c.feed-outcome.result c.feed-outcome.new.self) c.deref.ensures.value (c.feed-outcome.ensures.tells bytes found h)))

pub returns-in-Err-NoMemory-clause-next : goal.returns-in-Err-NoMemory-clause-next
returns-in-Err-NoMemory-clause-next c l f l' f' l'' f'' given r t le =
    let whole : length (take c.args.count c.args.self.now.buffer.items) ≡ c.args.count = first_of (search rules, grind (arith, common_steps)) in
    fed_starved l f l' f' _ _ _ _ given r c.requires.ready c.requires.rejection l'' f'' c.feed-outcome.new.self (take c.args.count c.args.self.now.buffer.items) c.args.count t le whole c.requires.room
