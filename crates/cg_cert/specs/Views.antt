-- What the reader's own values stand for.
use Rattle.cg_cert.specs.Machine.{State}
use Rattle.cg_cert.specs.declared.reader.Reader.{Reader}

abbrev pub state_of : Reader → State
state_of r = record {
  mode = r.mode;
  word = r.word.items;
  funs = r.funs;
  name = r.name;
  nodes = r.nodes;
  strings = r.strings;
  string = r.string;
}
