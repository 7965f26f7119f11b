use Rattle.std.proofs.Common.{[], ◌∷◌, ◌++◌, append_assoc, subst}
use Rattle.script_reader.specs.Readers.{HasRead}
use Rattle.script_reader.proofs.ReaderLemmas.{fed_whole, more_parts, piece_fails}
use Rattle.script_reader.proofs.reader.ScriptReader.feed.Goals as goal

pub returns-in-None : goal.returns-in-None
returns-in-None c = λ before h.
    let i = c.line.invariant in
    fed_whole before i.front c.line.rest.now c.args.piece.now c.hold.new.self c.hold.result i.parts (c.hold.ensures (before ++ i.front) (i.read before h))

pub returns-in-Err : goal.returns-in-Err
returns-in-Err c = λ before h.
    let i = c.line.invariant in
    let line = c.in-Some.line.now in
    let behind = c.in-Some.behind.now in
    piece_fails before i.front (line ++ 10 ∷ []) behind c.args.piece.now c.read_line.new.self c.read_line.new.self c.in-Err.fault (more_parts i.front c.line.rest.now line behind c.args.piece.now i.parts c.in-Some.ensures.1) (c.in-Err.ensures (before ++ i.front) (i.read before h))

pub line-preserved : goal.line-preserved
line-preserved c =
    let i = c.line.invariant in
    let line = c.in-Some.line.now in
    let behind = c.in-Some.behind.now in
    record {
      front = i.front ++ (line ++ 10 ∷ []);
      parts = more_parts i.front c.line.rest.now line behind c.args.piece.now i.parts c.in-Some.ensures.1;
      read = λ before h. subst (λ z. HasRead c.read_line.new.self z) (append_assoc before i.front (line ++ 10 ∷ [])) (c.in-Ok.ensures (before ++ i.front) (i.read before h));
    }
