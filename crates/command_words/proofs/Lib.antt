mod ProgramLemmas
mod TextLemmas
